-- The bytes that RTSP and its fields give a meaning to, by name.
use Rattle.std.specs.Prelude.{ℕ}

-- the byte 0
abbrev pub nul : ℕ
nul = 0

-- `b'\t'`
abbrev pub tab : ℕ
tab = 9

-- `b'\n'`
abbrev pub lf : ℕ
lf = 10

-- `b'\r'`
abbrev pub cr : ℕ
cr = 13

-- `b' '`
abbrev pub space : ℕ
space = 32

-- `b'!'`, the first visible byte
abbrev pub exclamation_mark : ℕ
exclamation_mark = 33

-- `b'"'`
abbrev pub double_quote : ℕ
double_quote = 34

-- `b'#'`
abbrev pub number_sign : ℕ
number_sign = 35

-- `b'$'`
abbrev pub dollar : ℕ
dollar = 36

-- `b'%'`
abbrev pub percent_sign : ℕ
percent_sign = 37

-- `b'&'`
abbrev pub ampersand : ℕ
ampersand = 38

-- `b'\''`
abbrev pub apostrophe : ℕ
apostrophe = 39

-- `b'*'`
abbrev pub asterisk : ℕ
asterisk = 42

-- `b'+'`
abbrev pub plus_sign : ℕ
plus_sign = 43

-- `b','`
abbrev pub comma : ℕ
comma = 44

-- `b'-'`
abbrev pub hyphen : ℕ
hyphen = 45

-- `b'.'`
abbrev pub dot : ℕ
dot = 46

-- `b'/'`
abbrev pub slash : ℕ
slash = 47

-- `b'0'`
abbrev pub digit_zero : ℕ
digit_zero = 48

-- `b':'`
abbrev pub colon : ℕ
colon = 58

-- `b';'`
abbrev pub semicolon : ℕ
semicolon = 59

-- `b'='`
abbrev pub equals_sign : ℕ
equals_sign = 61

-- `b'?'`
abbrev pub question_mark : ℕ
question_mark = 63

-- `b'@'`
abbrev pub at_sign : ℕ
at_sign = 64

-- `b'T'`
abbrev pub upper_t : ℕ
upper_t = 84

-- `b'Z'`
abbrev pub upper_z : ℕ
upper_z = 90

-- `b'['`
abbrev pub open_bracket : ℕ
open_bracket = 91

-- `b']'`
abbrev pub close_bracket : ℕ
close_bracket = 93

-- `b'^'`
abbrev pub caret : ℕ
caret = 94

-- `b'_'`
abbrev pub underscore : ℕ
underscore = 95

-- ``b'`'``
abbrev pub backtick : ℕ
backtick = 96

-- `b'|'`
abbrev pub vertical_bar : ℕ
vertical_bar = 124

-- `b'~'`, the last visible byte
abbrev pub tilde : ℕ
tilde = 126
