-- What goes up can be written under every number, and read back.
use Rattle.std.proofs.Common.{◌≡◌, ℕ, ◌+◌, ◌<◌, ◌≤◌, ◌^◌, Bool, true, false, ◌&&◌, ◌||◌, not, cond, List, [], ◌∷◌, length, Option, None, Some, IfSome, refl, ◌∙◌, ap, arith}
use Rattle.std.specs.Prelude.{codes, IsTrue, option_map}
use Rattle.std.specs.List.{list_all}
use Rattle.std.specs.Str.{bytes_eq}
use Rattle.std.proofs.lemmas.Bool.{and_parts}
use Rattle.gate_bytes.specs.Tokens.{equal_fold}
use Rattle.rtsp_head.specs.declared.header.Header.{Header}
use Rattle.rtsp_head.specs.HeadParts.{Request}
use Rattle.rtsp_head.specs.Messages.{is_added}
use Rattle.rtsp_head.specs.HeadText.{is_part, is_line_text, is_value, is_start, is_header}
use Rattle.rtsp_head.proofs.SoundLemmas.{field_sound}
use Rattle.rtsp_head.proofs.MessageLemmas.{message_sound}
use Rattle.rtsp_small.specs.declared.method.Method.{Method}
use Rattle.rtsp_small.specs.declared.method.Method.TheVariants.{Options, Describe, Setup, Play, Pause, Teardown, GetParameter, SetParameter}
use Rattle.rtsp_small.specs.Methods.{method_name}
use Rattle.rtsp_small.specs.Scales.{is_scale}
use Rattle.rtsp_small.specs.Sessions.{is_session_id}
use Rattle.rtsp_range.specs.declared.range.Range.{Range}
use Rattle.rtsp_range.specs.RangeText.{range_text}
use Rattle.rtsp_range.specs.Writable.{can_be_written}
use Rattle.rtsp_transport.specs.declared.channels.Pair.{Pair}
use Rattle.head_one.specs.declared.request.Request1.{Request1}
use Rattle.head_two.specs.Messages.{version_two}
use Rattle.translate_up.specs.Views.{Judged}
use Rattle.rtsp_head.specs.Optional.{said_where, field_headers}
use Rattle.rtsp_head.specs.Spellings.{begins_frame}
use Rattle.rtsp_head.proofs.FieldLemmas.{EachField, HasValue, fields_sound, names_hold, fields_few}
use Rattle.translate_up.specs.Fields.{field, Said, is_describe, is_setup, is_play, is_named, passing, scale_of}
use Rattle.translate_up.specs.Upward.{method_up, units, has_body_up, fields_up, request_up, transport_header, headers_with_transport}
use Rattle.translate_up.specs.Sound.{is_target, IsFit, IsSound, IsSoundSetup}
use Rattle.translate_up.proofs.VisibleLemmas.{visible_value, id_visible, grant_visible}
use Rattle.translate_up.proofs.RangeLemmas.{range_visible}
use Rattle.translate_up.proofs.ReadLemmas.{Read}

-- a value, where there is one
abbrev pub AreValues : Option (List ℕ) → Type 0
AreValues value = IfSome value (λ v. is_value v ≡ true)

pub where_value : (holds : Bool) (value : Option (List ℕ)) → AreValues value → AreValues (said_where holds value)
where_value true value v = v
where_value false value v = tt

pub session_value : (session : Option (List ℕ)) → IfSome session (λ id. is_session_id id ≡ true) → AreValues session
session_value None h = tt
session_value (Some id) h = visible_value id (id_visible id h)

field_value : (request : Request1) (name : List ℕ) → Read request → AreValues (field request name)
field_value request name read = field_sound request.head.headers name read.headers

passing_value : (test : List ℕ → Bool) (value : Option (List ℕ)) → AreValues value → AreValues (passing test value)
passing_value test None v = tt
passing_value test (Some value) v = where_value (test value) (Some value) v

-- a range that can be written, where there is one
abbrev pub IsWritable : Option Range → Type 0
IsWritable range = IfSome range (λ one. IsTrue (can_be_written one))

pub range_value : (range : Option Range) → IsWritable range → AreValues (option_map range_text range)
range_value None can = tt
range_value (Some range) can = visible_value (range_text range) (range_visible range can)

pub scale_value : (request : Request1) → Read request → AreValues (scale_of request)
scale_value request read = passing_value is_scale (field request (codes "Scale")) (field_value request (codes "Scale") read)

fields_values : (judged : Judged) (request : Request1) (said : Said) (range : Option Range) → IsFit judged → Read request → IsWritable range → EachField HasValue (fields_up judged request said range)
fields_values judged request said range fit read can = (
  where_value (is_named said) judged.session (session_value judged.session fit.session),
  (
    where_value (is_describe request.method) (field request (codes "Accept")) (field_value request (codes "Accept") read),
    (
      where_value (is_setup request.method) (Some units) refl,
      (
        range_value range can,
        (
          where_value (is_play request.method) (scale_of request) (scale_value request read),
          (
            where_value (has_body_up request) (field request (codes "Content-Type")) (field_value request (codes "Content-Type") read),
            (where_value (has_body_up request) (field request (codes "Content-Encoding")) (field_value request (codes "Content-Encoding") read), tt),
          ),
        ),
      ),
    ),
  ),
)

headers_sound : (judged : Judged) (request : Request1) (said : Said) (range : Option Range) → IsFit judged → Read request → IsWritable range →
    list_all is_header (field_headers (fields_up judged request said range)) ≡ true
headers_sound judged request said range fit read can = fields_sound (fields_up judged request said range) refl (fields_values judged request said range fit read can)

-- a name that a message doesn't have by itself
abbrev is_own : List ℕ → Bool
is_own name = not (equal_fold name (codes "CSeq") || equal_fold name (codes "Content-Length"))

headers_own : (judged : Judged) (request : Request1) (said : Said) (range : Option Range) →
    list_all (λ header. not (is_added header)) (field_headers (fields_up judged request said range)) ≡ true
headers_own judged request said range = names_hold (λ header. not (is_added header)) is_own (λ header own. own) (fields_up judged request said range) refl

headers_few : (judged : Judged) (request : Request1) (said : Said) (range : Option Range) → length (field_headers (fields_up judged request said range)) ≤ 7
headers_few judged request said range = fields_few (fields_up judged request said range)

-- a first line with one of the methods
pub start_sound : (method : Method) (uri : List ℕ) → is_target uri ≡ true → is_start (Request (method_name method) uri version_two) ≡ true
start_sound method uri h = by_name method (and_parts (is_part uri) (is_line_text uri) h).0 (and_parts (is_part uri) (is_line_text uri) h).1
  where
    known : is_part uri ≡ true → is_line_text uri ≡ true → ((is_part uri && true) && (is_line_text uri && true)) ≡ true
    known p l = ap (λ t. (t && true) && (is_line_text uri && true)) p ∙ ap (λ t. t && true) l

    by_name : (method : Method) → is_part uri ≡ true → is_line_text uri ≡ true → is_start (Request (method_name method) uri version_two) ≡ true
    by_name Options p l = known p l
    by_name Describe p l = known p l
    by_name Setup p l = known p l
    by_name Play p l = known p l
    by_name Pause p l = known p l
    by_name Teardown p l = known p l
    by_name GetParameter p l = known p l
    by_name SetParameter p l = known p l

body_short : (has : Bool) (body : List ℕ) → length body < 2 ^ 64 → length (cond has body []) < 2 ^ 64
body_short true body short = short
body_short false body short = omega arith

-- no method begins as a frame does
method_no_frame : (method : Method) → begins_frame (method_name method) ≡ false
method_no_frame Options = refl
method_no_frame Describe = refl
method_no_frame Setup = refl
method_no_frame Play = refl
method_no_frame Pause = refl
method_no_frame Teardown = refl
method_no_frame GetParameter = refl
method_no_frame SetParameter = refl

-- A request that goes up can be written and read back.
pub up_sound : (judged : Judged) (request : Request1) (said : Said) (uri : List ℕ) (range : Option Range) → IsFit judged → Read request → is_target uri ≡ true → IsWritable range →
    IsSound (request_up judged request said uri range)
up_sound judged request said uri range fit read target can number short = record {
  short = short;
  no_frame = method_no_frame (method_up request.method);
  held = body_short (has_body_up request) request.body read.body;
  writable = message_sound (Request (method_name (method_up request.method)) uri version_two) (Some number) (field_headers (fields_up judged request said range)) (cond (has_body_up request) request.body [])
      (start_sound (method_up request.method) uri target) (omega arith) (body_short (has_body_up request) request.body read.body) (omega (arith, headers_few judged request said range)) (headers_sound judged request said range fit read can);
  own = headers_own judged request said range;
}

transported_all : (p : Header → Bool) (pair : Pair) (headers : List Header) → p (transport_header pair) ≡ true → list_all p headers ≡ true → list_all p (headers_with_transport pair headers) ≡ true
transported_all p pair [] t h = ap (λ b. b && true) t
transported_all p pair (header ∷ headers) t h =
    let parts = and_parts (p header) (list_all p headers) h in
    here (bytes_eq header.name (codes "Accept-Ranges")) (ap (λ b. b && (p header && list_all p headers)) t ∙ h) (ap (λ b. b && list_all p (headers_with_transport pair headers)) parts.0 ∙ transported_all p pair headers t parts.1)
  where
    here : (due : Bool) → list_all p (transport_header pair ∷ header ∷ headers) ≡ true → list_all p (header ∷ headers_with_transport pair headers) ≡ true →
        list_all p (cond due (transport_header pair ∷ header ∷ headers) (header ∷ headers_with_transport pair headers)) ≡ true
    here true now later = now
    here false now later = later

transported_few : (pair : Pair) (headers : List Header) → length (headers_with_transport pair headers) ≤ length headers + 1
transported_few pair [] = omega arith
transported_few pair (header ∷ headers) = here (bytes_eq header.name (codes "Accept-Ranges")) (transported_few pair headers)
  where
    here : (due : Bool) → length (headers_with_transport pair headers) ≤ length headers + 1 →
        length (cond due (transport_header pair ∷ header ∷ headers) (header ∷ headers_with_transport pair headers)) ≤ length (header ∷ headers) + 1
    here true more = omega arith
    here false more = omega (arith, more)

transport_sound : (pair : Pair) → pair.rtp < 256 → pair.rtcp < 256 → is_header (transport_header pair) ≡ true
transport_sound pair rtp rtcp = visible_value (transport_header pair).value (grant_visible pair rtp rtcp)

-- So can a SETUP with its channels.
pub setup_sound : (judged : Judged) (request : Request1) (said : Said) (uri : List ℕ) → IsFit judged → Read request → is_target uri ≡ true → IsSoundSetup (request_up judged request said uri None)
setup_sound judged request said uri fit read target pair rtp rtcp number short =
    let headers = field_headers (fields_up judged request said None) in
    record {
      short = short;
      no_frame = method_no_frame (method_up request.method);
      held = body_short (has_body_up request) request.body read.body;
      writable = message_sound (Request (method_name (method_up request.method)) uri version_two) (Some number) (headers_with_transport pair headers) (cond (has_body_up request) request.body [])
          (start_sound (method_up request.method) uri target) (omega arith) (body_short (has_body_up request) request.body read.body) (omega (arith, headers_few judged request said None, transported_few pair headers))
          (transported_all is_header pair headers (transport_sound pair rtp rtcp) (headers_sound judged request said None fit read tt));
      own = transported_all (λ header. not (is_added header)) pair headers refl (headers_own judged request said None);
    }
