-- The methods that the gateway translates.
use Rattle.std.specs.Prelude.{ℕ, codes, List, [], ◌∷◌, ◌++◌, Option}
use Rattle.std.specs.List.{find, flat_map}
use Rattle.std.specs.Str.{bytes_eq}
use Rattle.rtsp_small.specs.declared.method.Method.{Method}
use Rattle.rtsp_small.specs.declared.method.TheConstants.{METHODS}
use Rattle.rtsp_small.specs.declared.method.Method.TheVariants.{Options, Describe, Setup, Play, Pause, Teardown, GetParameter, SetParameter}

-- how a method is spelled in a request line (RFC 2326, 10; RFC 7826, 13)
abbrev pub method_name : Method → List ℕ
method_name Options = codes "OPTIONS"
method_name Describe = codes "DESCRIBE"
method_name Setup = codes "SETUP"
method_name Play = codes "PLAY"
method_name Pause = codes "PAUSE"
method_name Teardown = codes "TEARDOWN"
method_name GetParameter = codes "GET_PARAMETER"
method_name SetParameter = codes "SET_PARAMETER"

-- the names of these methods, with a comma and a space between two
abbrev pub names_text : List Method → List ℕ
names_text [] = []
names_text (method ∷ more) = method_name method ++ flat_map (λ next. codes ", " ++ method_name next) more

-- the value of the field Public: the names of all methods (RFC 2326, 12.28; RFC 7826, 18.39)
abbrev pub methods_text : List ℕ
methods_text = names_text METHODS

-- the method with this name, with case (RFC 2326, 6.1); nothing for any other text
abbrev pub method_of : List ℕ → Option Method
method_of text = find (λ method. bytes_eq text (method_name method)) METHODS
