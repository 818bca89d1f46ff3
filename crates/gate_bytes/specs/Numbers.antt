-- Decimal numbers of a bounded number of digits (this project's own bounds).
use Rattle.std.specs.Prelude.{ℕ, ◌==◌, ◌&&◌, not, nat_le, List, length, Option, Some, None, if◌then◌else◌}
use Rattle.std.specs.List.{list_all}
use Rattle.std.specs.Char.{is_ascii_digit}
use Rattle.std.specs.Str.Parse.{digits_value}

-- the number that a text of 1 to most digits writes; nothing for any other text
abbrev pub number_in : ℕ → List ℕ → Option ℕ
number_in most text =
    if (not (length text == 0) && nat_le (length text) most) && list_all is_ascii_digit text then Some (digits_value 10 text) else None
