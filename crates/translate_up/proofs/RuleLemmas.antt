-- Every refusal is by a rule.
use Rattle.std.proofs.Common.{◌≡◌, ℕ, Bool, true, false, List, [], ◌∷◌, Option, None, Some, Result, Ok, Err, refl}
use Rattle.std.specs.Prelude.{is_none, is_ok}
use Rattle.rtsp_small.specs.declared.method.Method.{Method}
use Rattle.rtsp_small.specs.declared.method.Method.TheVariants.{Options, Describe, Setup, Play, Pause, Teardown, GetParameter, SetParameter}
use Rattle.rtsp_transport.specs.declared.channels.Pair.{Pair}
use Rattle.rtsp_range.specs.declared.range.Range.{Range}
use Rattle.rtsp_range.specs.declared.fault.RangeFault.{RangeFault}
use Rattle.head_one.specs.Refusals.{Rule, rule, first_code}
use Rattle.translate_up.specs.declared.rule.Admission.{Admission}
use Rattle.translate_up.specs.Views.{Judged}
use Rattle.translate_up.specs.Fields.{Said}
use Rattle.translate_up.specs.Rules.{names_no_session, is_out_of_turn, names_one_of_many, has_no_channels, has_bad_range, finds_none_free, finds_no_place, session_rules, with_channels, with_range, admission, unless_code, rules_checked}

-- where no rule of a list applies, the first doesn't, and none of the others
pub unrefused : (test : Bool) (code : ℕ) (more : List Rule) → first_code (rule test code ∷ more) ≡ None → (test ≡ false) × (first_code more ≡ None)
unrefused true code more h = cc
unrefused false code more h = (refl, h)

channels_there : (channels : Option Pair) → is_none channels ≡ false → is_ok (with_channels channels) ≡ true
channels_there None h = cc
channels_there (Some pair) h = refl

range_there : (range : Option (Result Range RangeFault)) → has_bad_range Play range ≡ false → is_ok (with_range range) ≡ true
range_there None h = refl
range_there (Some (Ok range)) h = refl
range_there (Some (Err fault)) h = cc

-- A SETUP that has channels is let through, and a PLAY that has no bad range; so is each other request.
let_through : (method : Method) (said : Said) → has_no_channels method said ≡ false → has_bad_range method said.range ≡ false → is_ok (admission method said) ≡ true
let_through Options said channels range = refl
let_through Describe said channels range = refl
let_through Setup said channels range = channels_there said.channels channels
let_through Play said channels range = range_there said.range range
let_through Pause said channels range = refl
let_through Teardown said channels range = refl
let_through GetParameter said channels range = refl
let_through SetParameter said channels range = refl

admitted : (judged : Judged) (method : Method) (said : Said) (uri : List ℕ) → first_code (session_rules judged method said uri) ≡ None → is_ok (admission method said) ≡ true
admitted judged method said uri h =
    let places = rule (finds_none_free judged method) 453 ∷ rule (finds_no_place judged method said) 503 ∷ [] in
    let ranges = rule (has_bad_range method said.range) 457 ∷ places in
    let channels = rule (has_no_channels method said) 461 ∷ ranges in
    let many = rule (names_one_of_many judged method uri) 460 ∷ channels in
    let turns = rule (is_out_of_turn judged method said uri) 455 ∷ many in
    let session = unrefused (names_no_session method judged.session said.session) 454 turns h in
    let turn = unrefused (is_out_of_turn judged method said uri) 455 many session.1 in
    let one = unrefused (names_one_of_many judged method uri) 460 channels turn.1 in
    let channel = unrefused (has_no_channels method said) 461 ranges one.1 in
    let bad = unrefused (has_bad_range method said.range) 457 places channel.1 in
    let_through method said channel.0 bad.0

never : (code : ℕ) → false ≡ true → ◌≡◌ {A = Option ℕ} None (Some code)
never code h = cc

by_rule : (first : Option ℕ) (result : Result Admission ℕ) (code : ℕ) → (first ≡ None → is_ok result ≡ true) → unless_code first result ≡ Err code → first ≡ Some code
by_rule None (Ok one) code through refused = cc
by_rule None (Err one) code through refused = never code (through refl)
by_rule (Some one) result code through refused = cc

pub refused_by_rule : (judged : Judged) (method : Method) (said : Said) (uri : List ℕ) (code : ℕ) →
    rules_checked judged method said uri ≡ Err code → first_code (session_rules judged method said uri) ≡ Some code
refused_by_rule judged method said uri code refused =
    by_rule (first_code (session_rules judged method said uri)) (admission method said) code (admitted judged method said uri) refused
