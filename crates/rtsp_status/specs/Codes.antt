-- What the codes of RTSP 2.0 become for a player of RTSP 1.0.
use Rattle.std.specs.Prelude.{ℕ, Bool, ◌&&◌, nat_le, List, [], ◌∷◌, Option, Some, None, unwrap_or, if◌then◌else◌}
use Rattle.rtsp_status.specs.declared.code.TheConstants.{FIRST_SUCCESS, LAST_SUCCESS}

-- A row of the table of codes: those from first to last become one code, or stay as they are.
pub record CodeRow : Type 0 where
  pub first : ℕ
  pub last : ℕ
  pub told : Option ℕ

-- the codes from first to last stay
abbrev pub stay : ℕ → ℕ → CodeRow
stay first last = record { first = first; last = last; told = None }

-- the codes from first to last become this one
abbrev pub become : ℕ → ℕ → ℕ → CodeRow
become first last one = record { first = first; last = last; told = Some one }

-- The codes of success are 200. The codes of RFC 2326 (7.1.1) stay, and those that RFC 7826 (17) has beside
-- them become the nearest that RFC 2326 has. Which is nearest, that no redirection is handed on, and what
-- becomes of codes that neither has, is this project's own. The first row that holds a code counts; a code
-- that no row holds is 502.
abbrev pub code_rows : List CodeRow
code_rows =
    become FIRST_SUCCESS LAST_SUCCESS 200
    ∷ stay 400 400 ∷ stay 403 406 ∷ stay 408 408 ∷ stay 410 415 ∷ stay 451 462 ∷ stay 500 505 ∷ stay 551 551
    ∷ become 401 401 403 ∷ become 407 407 403 ∷ become 463 463 403
    ∷ become 464 464 503 ∷ become 553 553 503
    ∷ become 465 466 500
    ∷ become 470 472 502
    ∷ become 400 499 400
    ∷ become 500 599 500
    ∷ []

-- whether a row has a code
abbrev pub holds : CodeRow → ℕ → Bool
holds row code = nat_le row.first code && nat_le code row.last

-- what the first row that has a code makes of it; else 502
abbrev pub code_in : List CodeRow → ℕ → ℕ
code_in [] code = 502
code_in (row ∷ more) code = if holds row code then unwrap_or row.told code else code_in more code

-- the code that a player is told
abbrev pub code_one : ℕ → ℕ
code_one code = code_in code_rows code
