-- What a player says at a step weighs no more than its requests.
use Rattle.std.proofs.Common.{◌≡◌, ℕ, ◌+◌, ◌-◌, ◌^◌, ◌<◌, ◌≤◌, ◌==◌, ◌&&◌, not, Bool, true, false, List, [], ◌∷◌, ◌++◌, length, Some, Ok, refl, ap, ◌∙◌, subst, arith}
use Rattle.std.specs.Prelude.{codes, decimal, take, ◌%◌}
use Rattle.std.specs.List.{list_all}
use Rattle.std.specs.Char.{is_ascii_digit}
use Rattle.std.proofs.lemmas.Bool.{and_parts}
use Rattle.std.proofs.lemmas.Fmt.{digits_decimal}
use Rattle.std.proofs.lemmas.List.{append-nil, length-append}
use Rattle.std.proofs.lemmas.List.Folds.{list_all-append}
use Rattle.gate_bytes.specs.Ascii.{space}
use Rattle.rtsp_head.specs.declared.header.Header.{Header}
use Rattle.rtsp_head.specs.declared.headers.TheConstants.{MOST_HEADERS}
use Rattle.rtsp_head.specs.HeadParts.{Start, Request}
use Rattle.rtsp_head.specs.HeadText.{start_text, is_line_text, is_part, is_start, is_value, is_header}
use Rattle.rtsp_head.specs.Messages.{message_headers, is_added, Front, message, IsReadable}
use Rattle.rtsp_head.specs.declared.item.ItemKind.{ItemKind}
use Rattle.rtsp_head.specs.declared.item.ItemKind.TheVariants as kinds
use Rattle.rtsp_head.specs.Heads.{head_of}
use Rattle.rtsp_head.specs.Items.{Shape, is_bad, items_of}
use Rattle.rtsp_head.specs.Spellings.{begins_frame}
use Rattle.rtsp_head.specs.Starts.{is_unspaced, names_protocol}
use Rattle.rtsp_head.proofs.CutLemmas.{line_text_append}
use Rattle.rtsp_head.proofs.DigitLemmas.{own}
use Rattle.rtsp_head.proofs.MessageLemmas.{message_sound}
use Rattle.rtsp_head.proofs.StreamLemmas.{front_read}
use Rattle.rtsp_head.proofs.WriteLemmas.{digits_line}
use Rattle.head_one.specs.Refusals.{version_one}
use Rattle.drill_run.specs.declared.step.PlayerStep.{PlayerStep}
use Rattle.drill_run.specs.declared.step.PlayerStep.TheVariants as steps
use Rattle.drill_run.specs.Steps.{drilled_uri, drilled_request, drilled_field, transport_asked, session_field, drilled_play_fields, drilled_play, step_text}
use Rattle.drill_server.specs.ServerSteps.{is_request_kind}
use Rattle.drill_run.proofs.WeighLemmas.{weighed}
use Rattle.drill_run.proofs.FirstItemLemmas.{message_items, frame_items}

both_true : (one other : Bool) → one ≡ true → other ≡ true → (one && other) ≡ true
both_true one other a b = cc

-- A number is written in digits.
decimal_digits : (n : ℕ) → n < 2 ^ 64 → list_all is_ascii_digit (decimal n) ≡ true
decimal_digits n low = digits_decimal own n low

digits_unspaced : (text : List ℕ) → list_all is_ascii_digit text ≡ true → is_unspaced text ≡ true
digits_unspaced [] h = refl
digits_unspaced (b ∷ text) h =
    let parts = and_parts (is_ascii_digit b) (list_all is_ascii_digit text) h in
    let rest : is_unspaced text ≡ true = digits_unspaced text parts.1 in
    grind arith

-- What a URI of a player is: a part of a line, with a byte.
record IsUri (uri : List ℕ) : Type 0 where
  some : 0 < length uri
  unspaced : is_unspaced uri ≡ true
  text : is_line_text uri ≡ true

uri_more : (uri path : List ℕ) → IsUri uri → is_unspaced path ≡ true → is_line_text path ≡ true → IsUri (uri ++ path)
uri_more uri path is unspaced text = record {
  some = omega (arith, is.some, length-append uri path);
  unspaced = list_all-append (λ b. not (b == space)) uri path ∙ both_true (is_unspaced uri) (is_unspaced path) is.unspaced unspaced;
  text = line_text_append uri path is.text text;
}

player_uri : (i : ℕ) → i < 2 ^ 64 → IsUri (drilled_uri i)
player_uri i low =
    uri_more (codes "rtsp://gate.example/c") (decimal i) (record { some = omega arith; unspaced = refl; text = refl })
    (digits_unspaced (decimal i) (decimal_digits i low)) (digits_line (decimal i) (decimal_digits i low))

all_true : (a b c d : Bool) → a ≡ true → b ≡ true → c ≡ true → d ≡ true → ((a && b) && true) && ((c && d) && true) ≡ true
all_true a b c d ha hb hc hd = grind arith

start_sound : (method uri : List ℕ) → (is_part method && not (names_protocol method)) ≡ true → is_line_text method ≡ true → IsUri uri → is_start (Request method uri version_one) ≡ true
start_sound method uri part text is =
    let whole : is_part uri ≡ true = both_true (not (length uri == 0)) (is_unspaced uri) (grind (arith, is.some)) is.unspaced in
    all_true (is_part method && not (names_protocol method)) (is_part uri) (is_line_text method) (is_line_text uri) part whole text is.text

-- A request of a player is one at most, whatever stands behind it.
record CanBeAsked (method uri : List ℕ) (number : ℕ) (fields : List Header) : Type 0 where
  start : is_start (Request method uri version_one) ≡ true
  no_frame : begins_frame (start_text (Request method uri version_one)) ≡ false
  low : number < 2 ^ 64
  few : length fields ≤ MOST_HEADERS - 2
  sound : list_all is_header fields ≡ true
  own : list_all (λ header. not (is_added header)) fields ≡ true

-- The headers of a request.
abbrev pub asked_headers : ℕ → List Header → List Header
asked_headers number fields = message_headers (Some number) fields []

-- An item weighs no more than its request may, by its method and its headers, and nothing where it is none.
pub record WeighsMost (weigh : Shape → ℕ) (most : List ℕ → List Header → ℕ) : Type 0 where
  pub other : (shape : Shape) → is_request_kind shape.kind ≡ false → weigh shape ≡ 0
  pub request : (shape : Shape) (method uri : List ℕ) (headers : List Header) → head_of (take shape.head shape.bytes) ≡ Ok (record { start = Request method uri version_one; headers = headers })
      → weigh shape ≤ most method headers

bad_other : (kind : ItemKind) → is_bad kind ≡ true → is_request_kind kind ≡ false
bad_other kinds.Request is = cc
bad_other kinds.Response is = cc
bad_other kinds.Frame is = cc
bad_other (kinds.Bad fault) is = refl

module _ (weigh : Shape → ℕ) (most : List ℕ → List Header → ℕ) (weighs : WeighsMost weigh most) where
  asked_more : (method uri : List ℕ) (number : ℕ) (fields : List Header) (rest : List ℕ) → CanBeAsked method uri number fields
      → weighed weigh (items_of (drilled_request method uri number fields ++ rest)) ≤ most method (asked_headers number fields) + weighed weigh (items_of rest)
  asked_more method uri number fields rest can =
      let start : Start = Request method uri version_one in
      let readable : IsReadable start (Some number) fields [] = record {
        writable = message_sound start (Some number) fields [] can.start can.low (omega arith) can.few can.sound;
        no_frame = can.no_frame;
        own = can.own;
        short = omega arith;
      } in
      let front : Front = record { message = message start (Some number) fields []; rest = rest } in
      message_items (λ items. weighed weigh items ≤ most method (asked_headers number fields) + weighed weigh (items_of rest))
      (drilled_request method uri number fields ++ rest) front (front_read start (Some number) fields [] rest readable) (omega arith)
      (λ shape bad. let none = weighs.other shape (bad_other shape.kind bad) in omega (arith, none))
      (λ shape kind read. let few = weighs.request shape method uri (asked_headers number fields) read in omega (arith, few))

  asked_once : (method uri : List ℕ) (number : ℕ) (fields : List Header) → CanBeAsked method uri number fields → weighed weigh (items_of (drilled_request method uri number fields)) ≤ most method (asked_headers number fields)
  asked_once method uri number fields can =
      subst (λ (l : List ℕ). weighed weigh (items_of l) ≤ most method (asked_headers number fields)) (append-nil (drilled_request method uri number fields))
      (let few = asked_more method uri number fields [] can in
      let none : weighed weigh (items_of []) ≡ 0 = refl in omega (arith, few, none))

-- The fields of a request, in a session whose id is a value.
session_sound : (id : List ℕ) → is_value id ≡ true → list_all is_header (session_field id ∷ []) ≡ true
session_sound id value = ap (λ t. t && true) value

played : (i number : ℕ) (id range : List ℕ) → i < 2 ^ 64 → number < 2 ^ 64 → is_value id ≡ true → is_value range ≡ true → CanBeAsked (codes "PLAY") (drilled_uri i) number (drilled_play_fields id range)
played i number id range below low value other = record {
  start = start_sound (codes "PLAY") (drilled_uri i) refl refl (player_uri i below);
  no_frame = refl;
  low = low;
  few = omega arith;
  sound = both_true (is_value id) (is_value range && true) value (ap (λ t. t && true) other);
  own = refl;
}

-- The most that a step weighs.
abbrev pub step_most : (List ℕ → List Header → ℕ) → PlayerStep → List ℕ → ℕ
step_most most steps.Options id = most (codes "OPTIONS") (asked_headers 1 [])
step_most most steps.Describe id = most (codes "DESCRIBE") (asked_headers 2 [])
step_most most steps.SetupFirst id = most (codes "SETUP") (asked_headers 3 (drilled_field (codes "Transport") (transport_asked (codes "0-1")) ∷ []))
step_most most steps.SetupSecond id = most (codes "SETUP") (asked_headers 4 (session_field id ∷ drilled_field (codes "Transport") (transport_asked (codes "2-3")) ∷ []))
step_most most steps.Play id = most (codes "PLAY") (asked_headers 5 (drilled_play_fields id (codes "npt=0-10"))) + most (codes "PLAY") (asked_headers 6 (drilled_play_fields id (codes "npt=20-30")))
step_most most steps.Frame id = 0
step_most most steps.Teardown id = most (codes "TEARDOWN") (asked_headers 7 (session_field id ∷ []))
step_most most steps.End id = 0

-- one request, and what is behind it
both_few : (all one rest other : ℕ) → all ≤ one + rest → rest ≤ other → all ≤ one + other
both_few all one rest other first second = omega (arith, first, second)

pub script_weighed : (weigh : Shape → ℕ) (most : List ℕ → List Header → ℕ) → WeighsMost weigh most → (step : PlayerStep) (i : ℕ) (id : List ℕ) → i < 2 ^ 64 → is_value id ≡ true
    → weighed weigh (items_of (step_text step i id)) ≤ step_most most step id
script_weighed weigh most weighs steps.Options i id below value =
    asked_once weigh most weighs (codes "OPTIONS") (codes "*") 1 [] (record { start = refl; no_frame = refl; low = omega arith; few = omega arith; sound = refl; own = refl })
script_weighed weigh most weighs steps.Describe i id below value = asked_once weigh most weighs (codes "DESCRIBE") (drilled_uri i) 2 [] (record {
  start = start_sound (codes "DESCRIBE") (drilled_uri i) refl refl (player_uri i below);
  no_frame = refl;
  low = omega arith;
  few = omega arith;
  sound = refl;
  own = refl;
})
script_weighed weigh most weighs steps.SetupFirst i id below value =
    asked_once weigh most weighs (codes "SETUP") (drilled_uri i ++ codes "/1") 3 (drilled_field (codes "Transport") (transport_asked (codes "0-1")) ∷ []) (record {
      start = start_sound (codes "SETUP") (drilled_uri i ++ codes "/1") refl refl (uri_more (drilled_uri i) (codes "/1") (player_uri i below) refl refl);
      no_frame = refl;
      low = omega arith;
      few = omega arith;
      sound = refl;
      own = refl;
    })
script_weighed weigh most weighs steps.SetupSecond i id below value =
    asked_once weigh most weighs (codes "SETUP") (drilled_uri i ++ codes "/2") 4 (session_field id ∷ drilled_field (codes "Transport") (transport_asked (codes "2-3")) ∷ []) (record {
      start = start_sound (codes "SETUP") (drilled_uri i ++ codes "/2") refl refl (uri_more (drilled_uri i) (codes "/2") (player_uri i below) refl refl);
      no_frame = refl;
      low = omega arith;
      few = omega arith;
      sound = session_sound id value;
      own = refl;
    })
script_weighed weigh most weighs steps.Play i id below value =
    let part = codes "npt=0-10" in
    let other = codes "npt=20-30" in
    let first = asked_more weigh most weighs (codes "PLAY") (drilled_uri i) 5 (drilled_play_fields id part) (drilled_play i 6 id other) (played i 5 id part below (omega arith) value refl) in
    let second = asked_once weigh most weighs (codes "PLAY") (drilled_uri i) 6 (drilled_play_fields id other) (played i 6 id other below (omega arith) value refl) in
    both_few (weighed weigh (items_of (step_text steps.Play i id))) (most (codes "PLAY") (asked_headers 5 (drilled_play_fields id part))) (weighed weigh (items_of (drilled_play i 6 id other)))
    (most (codes "PLAY") (asked_headers 6 (drilled_play_fields id other))) first second
script_weighed weigh most weighs steps.Frame i id below value =
    frame_items (λ items. weighed weigh items ≤ 0) 1 (i % 256) []
    (λ shape kind. let none = weighs.other shape (ap is_request_kind kind) in let later : weighed weigh (items_of []) ≡ 0 = refl in omega (arith, none, later))
script_weighed weigh most weighs steps.Teardown i id below value = asked_once weigh most weighs (codes "TEARDOWN") (drilled_uri i) 7 (session_field id ∷ []) (record {
  start = start_sound (codes "TEARDOWN") (drilled_uri i) refl refl (player_uri i below);
  no_frame = refl;
  low = omega arith;
  few = omega arith;
  sound = session_sound id value;
  own = refl;
})
script_weighed weigh most weighs steps.End i id below value = let none : weighed weigh (items_of []) ≡ 0 = refl in omega (arith, none)
