-- The head of a message that was found in a stream is sound.
use Rattle.std.proofs.Common.{◌≡◌, ℕ, ◌+◌, ◌*◌, Bool, true, false, ◌==◌, nat_lt, cond, slice_index, List, [], ◌∷◌, length, take, drop, Option, None, Some, Result, Ok, Err, IfSome, refl, sym, ap, subst, ◌⊎◌, inl, inr}
use Rattle.std.specs.Result.{IsOk}
use Rattle.std.specs.Option.{option_map}
use Rattle.gate_bytes.specs.Ascii.{dollar}
use Rattle.gate_bytes.specs.Outcomes.{UnlessMemory}
use Rattle.rtsp_head.specs.declared.fault.HeadFault.{HeadFault}
use Rattle.rtsp_head.specs.declared.fault.HeadFault.TheVariants as faults
use Rattle.rtsp_head.specs.declared.facts.Facts.{Facts}
use Rattle.rtsp_head.specs.declared.facts.Length.{Length}
use Rattle.rtsp_head.specs.declared.facts.Length.TheVariants as lengths
use Rattle.rtsp_head.specs.declared.head.Head.{Head}
use Rattle.rtsp_head.specs.declared.item.BadKind.TheVariants as bad
use Rattle.rtsp_head.specs.declared.item.Extent.{Extent}
use Rattle.rtsp_head.specs.declared.item.ItemKind.{ItemKind}
use Rattle.rtsp_head.specs.declared.item.ItemKind.TheVariants.{Request, Response, Frame, Bad}
use Rattle.rtsp_head.specs.declared.item.Span.{Span}
use Rattle.rtsp_head.specs.declared.item.TheConstants.{MOST_BODY, MOST_HEAD}
use Rattle.rtsp_head.specs.Lines.{result_map, head_refusal}
use Rattle.rtsp_head.specs.Heads.{facts, facts_of, head_of}
use Rattle.rtsp_head.specs.Items.{bad_span, message_kind, when_whole, body_span, judged_span, headed_span, message_span, frame_span, span_of, first_extent, blank_lines, head_len}

-- a request or a response
abbrev pub IsMessage : ItemKind → Type 0
IsMessage Request = Unit {0}
IsMessage Response = Unit {0}
IsMessage Frame = ⊥
IsMessage (Bad kind) = ⊥

pub is_message : (kind : ItemKind) → (kind ≡ Request) ⊎ (kind ≡ Response) → IsMessage kind
is_message kind (inl request) = subst IsMessage (sym request) tt
is_message kind (inr response) = subst IsMessage (sym response) tt

-- where a span is a message's, its head is sound
abbrev HasSoundHead : List ℕ → Span → Type 0
HasSoundHead bytes span = IsMessage span.kind → IsOk (head_of (take span.head bytes))

whole : (bytes : List ℕ) (come : ℕ) (span : Span) → HasSoundHead bytes span → IfSome (when_whole come span) (HasSoundHead bytes)
whole bytes come span sound = by_test (nat_lt come span.len)
  where
    by_test : (short : Bool) → IfSome (cond short None (Some span)) (HasSoundHead bytes)
    by_test true = tt
    by_test false = sound

body : (bytes : List ℕ) (kind : ItemKind) (come n : ℕ) (length : Length) → IsOk (head_of (take n bytes)) → IfSome (body_span kind come n length) (HasSoundHead bytes)
body bytes kind come n lengths.Absent ok = whole bytes come (record { kind = kind; len = n; head = n }) (λ is. ok)
body bytes kind come n (lengths.Bytes more) ok = by_test (nat_lt MOST_BODY more)
  where
    by_test : (long : Bool) → IfSome (cond long (Some (bad_span bad.Body n)) (when_whole come (record { kind = kind; len = n + more; head = n }))) (HasSoundHead bytes)
    by_test true = λ is. absurd is
    by_test false = whole bytes come (record { kind = kind; len = n + more; head = n }) (λ is. ok)
body bytes kind come n lengths.Bad ok = λ is. absurd is

-- a head that says something is sound
pub sound_by : (read : Result Head HeadFault) (told : Facts) → result_map facts read ≡ Ok told → IsOk read
sound_by (Ok head) told is = refl
sound_by (Err fault) told is = cc

judged : (bytes : List ℕ) (come n : ℕ) (told : Result Facts HeadFault) → facts_of (take n bytes) ≡ told → IfSome (judged_span come n told) (HasSoundHead bytes)
judged bytes come n (Ok told) is = body bytes (message_kind told.request) come n told.length (sound_by (head_of (take n bytes)) told is)
judged bytes come n (Err fault) is = λ bad. absurd bad

headed : (bytes : List ℕ) (end : Option ℕ) → IfSome (headed_span bytes end) (HasSoundHead bytes)
headed bytes None = by_test (nat_lt (length bytes) MOST_HEAD)
  where
    by_test : (short : Bool) → IfSome (cond short None (Some (bad_span bad.Head MOST_HEAD))) (HasSoundHead bytes)
    by_test true = tt
    by_test false = λ is. absurd is
headed bytes (Some n) = judged bytes (length bytes) n (facts_of (take n bytes)) refl

abbrev frame : List ℕ → Span
frame bytes = record { kind = Frame; len = 4 + (256 * slice_index bytes 2 + slice_index bytes 3); head = 0 }

framed : (bytes : List ℕ) → IfSome (frame_span bytes) (HasSoundHead bytes)
framed bytes = by_test (nat_lt (length bytes) 4)
  where
    by_test : (short : Bool) → IfSome (cond short None (when_whole (length bytes) (frame bytes))) (HasSoundHead bytes)
    by_test true = tt
    by_test false = whole bytes (length bytes) (frame bytes) (λ is. absurd is)

spanned : (bytes : List ℕ) → IfSome (span_of bytes) (HasSoundHead bytes)
spanned [] = tt
spanned (b ∷ bytes) = by_test (b == dollar)
  where
    by_test : (frame : Bool) → IfSome (cond frame (frame_span (b ∷ bytes)) (message_span (b ∷ bytes))) (HasSoundHead (b ∷ bytes))
    by_test true = framed (b ∷ bytes)
    by_test false = headed (b ∷ bytes) (head_len (take MOST_HEAD (b ∷ bytes)))

abbrev span_in : Span → Option Extent → Span
span_in other None = other
span_in other (Some extent) = extent.span

abbrev skipped_in : ℕ → Option Extent → ℕ
skipped_in other None = other
skipped_in other (Some extent) = extent.skipped

-- the first item where it stands at the front
at_front : (bytes : List ℕ) (skipped : ℕ) (found : Option Span) (span : Span) → IfSome found (HasSoundHead (drop skipped bytes))
    → ◌≡◌ {A = Option Extent} (option_map (λ span. record { skipped = skipped; span = span }) found) (Some (record { skipped = 0; span = span })) → HasSoundHead bytes span
at_front bytes skipped None span sound is = cc
at_front bytes skipped (Some found) span sound is =
    let same : found ≡ span = ap (span_in span) is in
    let none : skipped ≡ 0 = ap (skipped_in 0) is in
    subst (λ (one : Span). HasSoundHead bytes one) same (subst (λ (n : ℕ). HasSoundHead (drop n bytes) found) none sound)

-- The head of a message that stands at the front of a stream is sound.
pub message_head : (bytes : List ℕ) (span : Span) → first_extent bytes ≡ Some (record { skipped = 0; span = span }) → IsMessage span.kind → IsOk (head_of (take span.head bytes))
message_head bytes span is = at_front bytes (blank_lines bytes) (span_of (drop (blank_lines bytes) bytes)) span (spanned (drop (blank_lines bytes) bytes)) is

told : (fault : HeadFault) → UnlessMemory {A = Head} head_refusal (Err fault) (Err fault)
told faults.Control = refl
told faults.Start = refl
told faults.Colon = refl
told faults.Name = refl
told faults.Many = refl
told faults.Memory = tt

-- A fault that was found is that of the head.
pub refused_by : (read : Result Head HeadFault) (fault : HeadFault) → ◌≡◌ {A = Result Facts HeadFault} (Err fault) (result_map facts read) → UnlessMemory {A = Head} head_refusal (Err fault) read
refused_by (Ok head) fault is = cc
refused_by (Err other) fault is = let same : fault ≡ other = cc in subst (λ (one : HeadFault). UnlessMemory {A = Head} head_refusal (Err fault) (Err one)) same (told fault)
