-- Where the first item of a stream stands, when more comes.
use Rattle.std.proofs.Common.{◌≡◌, ℕ, ◌+◌, ◌*◌, ◌<◌, ◌≤◌, Bool, true, false, cond, eqb, ltb, not, List, [], ◌∷◌, ◌++◌, length, take, drop, get_or, Option, Some, None, Result, Ok, Err, inl, inr, refl, sym, ap, ◌∙◌, subst, arith}
use Rattle.std.specs.Option.{option_map}
use Rattle.std.proofs.lemmas.List.{nil_from_length, take-append-le, drop-append-le, length-append, length-take, length-drop, get_or_append_left}
use Rattle.std.proofs.lemmas.Bool.{eqb-true, eq-eqb, ne_eqb, ltb-false, le-ltb, cases_Bool}
use Rattle.gate_bytes.specs.Ascii as ascii
use Rattle.rtsp_head.specs.Items.{blank_lines, head_len, bad_span, when_whole, body_span, judged_span, headed_span, message_span, frame_span, span_of, first_extent, message_kind, bad_kind}
use Rattle.rtsp_head.specs.Heads.{facts_of}
use Rattle.rtsp_head.specs.declared.facts.Facts.{Facts}
use Rattle.rtsp_head.specs.declared.facts.Length.{Length}
use Rattle.rtsp_head.specs.declared.facts.Length.TheVariants as lengths
use Rattle.rtsp_head.specs.declared.fault.HeadFault.{HeadFault}
use Rattle.rtsp_head.specs.declared.item.ItemKind.{ItemKind}
use Rattle.rtsp_head.specs.declared.item.BadKind.TheVariants as bad
use Rattle.rtsp_head.specs.declared.item.ItemKind.TheVariants as kinds
use Rattle.rtsp_head.specs.declared.item.Span.{Span}
use Rattle.rtsp_head.specs.declared.item.Extent.{Extent}
use Rattle.rtsp_head.specs.declared.item.TheConstants.{MOST_BODY, MOST_HEAD}
use Rattle.rtsp_frame.proofs.HeadLemmas.{head_within_more, head_from_fits, decided, blank_lines_more, blank_lines_fit}

-- whether the span is s, and has a byte and no more than have come
pub record IsSpan (come : ℕ) (s : Span) : Type 0 where
  pub not_empty : 0 < s.len
  pub fits : s.len ≤ come

-- what is None below a limit and Some from it on
pub unless_below : (b : Bool) (span s : Span) → cond b None (Some span) ≡ Some s → (b ≡ false) × (span ≡ s)
unless_below true span s h = cc
unless_below false span s h = (refl, cc)

pub not_below : (b : Bool) (o : Option Span) (s : Span) → cond b None o ≡ Some s → (b ≡ false) × (o ≡ Some s)
not_below true o s h = cc
not_below false o s h = (refl, h)

pub when_whole_some : (come : ℕ) (span s : Span) → when_whole come span ≡ Some s → (span.len ≤ come) × (span ≡ s)
when_whole_some come span s h =
    let parts = unless_below (ltb come span.len) span s h in (ltb-false come span.len parts.0, parts.1)

pub when_whole_from : (come : ℕ) (span : Span) → span.len ≤ come → when_whole come span ≡ Some span
when_whole_from come span h = ap (λ (b : Bool). cond b None (Some span)) (le-ltb come span.len h)

when_whole_more : (come more : ℕ) (span s : Span) → come ≤ more → when_whole come span ≡ Some s → when_whole more span ≡ Some s
when_whole_more come more span s le h =
    let parts = when_whole_some come span s h in
    let fits : span.len ≤ more = omega arith in
    when_whole_from more span fits ∙ ap (λ (x : Span). Some x) parts.1

when_whole_is : (come : ℕ) (span s : Span) → 0 < span.len → when_whole come span ≡ Some s → IsSpan come s
when_whole_is come span s pos h =
    let parts = when_whole_some come span s h in
    subst (λ (x : Span). IsSpan come x) parts.1 (record { not_empty = pos; fits = parts.0 })

some_is : (come : ℕ) (span s : Span) → IsSpan come span → Some span ≡ Some s → IsSpan come s
some_is come span s is h = let e : span ≡ s = cc in subst (λ (x : Span). IsSpan come x) e is

-- A message

choose_more : (b : Bool) (o p q : Option Span) (s : Span) → (p ≡ Some s → q ≡ Some s) → cond b o p ≡ Some s → cond b o q ≡ Some s
choose_more true o p q s f h = h
choose_more false o p q s f h = f h

body_more : (kind : ItemKind) (come more n : ℕ) (len : Length) (s : Span) → come ≤ more → body_span kind come n len ≡ Some s → body_span kind more n len ≡ Some s
body_more kind come more n lengths.Absent s le h = when_whole_more come more _ s le h
body_more kind come more n (lengths.Bytes body) s le h =
    choose_more (ltb MOST_BODY body) _ _ _ s (when_whole_more come more _ s le) h
body_more kind come more n lengths.Bad s le h = h

judged_more : (come more n : ℕ) (facts : Result Facts HeadFault) (s : Span) → come ≤ more → judged_span come n facts ≡ Some s → judged_span more n facts ≡ Some s
judged_more come more n (Ok facts) s le h = body_more (message_kind facts.request) come more n facts.length s le h
judged_more come more n (Err fault) s le h = h

choose_is : (b : Bool) (come : ℕ) (o p : Option Span) (s : Span) → (o ≡ Some s → IsSpan come s) → (p ≡ Some s → IsSpan come s) → cond b o p ≡ Some s → IsSpan come s
choose_is true come o p s f g h = f h
choose_is false come o p s f g h = g h

body_is : (kind : ItemKind) (come n : ℕ) (len : Length) (s : Span) → 0 < n → n ≤ come → body_span kind come n len ≡ Some s → IsSpan come s
body_is kind come n lengths.Absent s pos le h = when_whole_is come _ s pos h
body_is kind come n (lengths.Bytes body) s pos le h =
    choose_is (ltb MOST_BODY body) come _ _ s
    (some_is come (bad_span bad.Body n) s (record { not_empty = pos; fits = le }))
    (when_whole_is come (record { kind = kind; len = n + body; head = n }) s (omega arith)) h
body_is kind come n lengths.Bad s pos le h = some_is come (bad_span bad.Length n) s (record { not_empty = pos; fits = le }) h

judged_is : (come n : ℕ) (facts : Result Facts HeadFault) (s : Span) → 0 < n → n ≤ come → judged_span come n facts ≡ Some s → IsSpan come s
judged_is come n (Ok facts) s pos le h = body_is (message_kind facts.request) come n facts.length s pos le h
judged_is come n (Err fault) s pos le h = some_is come (bad_span (bad_kind fault) n) s (record { not_empty = pos; fits = le }) h

longer : (xs ys : List ℕ) → length xs ≤ length (xs ++ ys)
longer xs ys = omega (arith, length-append xs ys)

pub within : (most : ℕ) (xs : List ℕ) (n : ℕ) → n ≤ length (take most xs) → n ≤ length xs
within most xs n h = omega (arith, length-take most xs)

headed_more : (xs ys : List ℕ) (o : Option ℕ) (s : Span) → head_len (take MOST_HEAD xs) ≡ o → headed_span xs o ≡ Some s → message_span (xs ++ ys) ≡ Some s
headed_more xs ys None s at h =
    let parts = unless_below (ltb (length xs) MOST_HEAD) (bad_span bad.Head MOST_HEAD) s h in
    let le = ltb-false (length xs) MOST_HEAD parts.0 in
    let none : head_len (take MOST_HEAD (xs ++ ys)) ≡ None = ap head_len (take-append-le MOST_HEAD xs ys le) ∙ at in
    let le_more : MOST_HEAD ≤ length (xs ++ ys) = omega (arith, length-append xs ys, le) in
    subst (λ (o : Option ℕ). headed_span (xs ++ ys) o ≡ Some s) (sym none)
    (ap (λ (b : Bool). cond b None (Some (bad_span bad.Head MOST_HEAD))) (le-ltb (length (xs ++ ys)) MOST_HEAD le_more) ∙ ap (λ (x : Span). Some x) parts.1)
headed_more xs ys (Some n) s at h =
    let some = head_within_more MOST_HEAD xs ys n at in
    let fits = head_from_fits (take MOST_HEAD xs) true n at in
    let same = take-append-le n xs ys (within MOST_HEAD xs n fits.1) in
    subst (λ (o : Option ℕ). headed_span (xs ++ ys) o ≡ Some s) (sym some)
    (subst (λ (head : List ℕ). judged_span (length (xs ++ ys)) n (facts_of head) ≡ Some s) (sym same)
    (judged_more (length xs) (length (xs ++ ys)) n (facts_of (take n xs)) s (longer xs ys) h))

headed_is : (xs : List ℕ) (o : Option ℕ) (s : Span) → head_len (take MOST_HEAD xs) ≡ o → headed_span xs o ≡ Some s → IsSpan (length xs) s
headed_is xs None s at h =
    let parts = unless_below (ltb (length xs) MOST_HEAD) (bad_span bad.Head MOST_HEAD) s h in
    let le = ltb-false (length xs) MOST_HEAD parts.0 in
    subst (λ (x : Span). IsSpan (length xs) x) parts.1 (record { not_empty = omega arith; fits = le })
headed_is xs (Some n) s at h =
    let fits = head_from_fits (take MOST_HEAD xs) true n at in
    judged_is (length xs) n (facts_of (take n xs)) s fits.0 (within MOST_HEAD xs n fits.1) h

-- A frame

-- the span that four bytes of a frame give
abbrev pub frame_of : ℕ → ℕ → Span
frame_of high low = record { kind = kinds.Frame; len = 4 + (256 * high + low); head = 0 }

frame_more : (xs ys : List ℕ) (s : Span) → frame_span xs ≡ Some s → frame_span (xs ++ ys) ≡ Some s
frame_more xs ys s h =
    let parts = not_below (ltb (length xs) 4) (when_whole (length xs) (frame_of (get_or xs 2 0) (get_or xs 3 0))) s h in
    let le = ltb-false (length xs) 4 parts.0 in
    let far : (ltb (length (xs ++ ys)) 4) ≡ false = le-ltb (length (xs ++ ys)) 4 (omega (arith, length-append xs ys, le)) in
    let high = get_or_append_left xs ys 0 2 (omega (arith, le)) in
    let low = get_or_append_left xs ys 0 3 (omega (arith, le)) in
    ap (λ (b : Bool). cond b None (when_whole (length (xs ++ ys)) (frame_of (get_or (xs ++ ys) 2 0) (get_or (xs ++ ys) 3 0)))) far
    ∙ ap (λ (n : ℕ). when_whole (length (xs ++ ys)) (frame_of n (get_or (xs ++ ys) 3 0))) high
    ∙ ap (λ (n : ℕ). when_whole (length (xs ++ ys)) (frame_of (get_or xs 2 0) n)) low
    ∙ when_whole_more (length xs) (length (xs ++ ys)) (frame_of (get_or xs 2 0) (get_or xs 3 0)) s (longer xs ys) parts.1

frame_is : (xs : List ℕ) (s : Span) → frame_span xs ≡ Some s → IsSpan (length xs) s
frame_is xs s h =
    let parts = not_below (ltb (length xs) 4) (when_whole (length xs) (frame_of (get_or xs 2 0) (get_or xs 3 0))) s h in
    when_whole_is (length xs) (frame_of (get_or xs 2 0) (get_or xs 3 0)) s (omega arith) parts.1

-- Either

either_more : (b : Bool) (o p q r : Option Span) (s : Span) → (o ≡ Some s → q ≡ Some s) → (p ≡ Some s → r ≡ Some s) → cond b o p ≡ Some s → cond b q r ≡ Some s
either_more true o p q r s f g h = f h
either_more false o p q r s f g h = g h

-- a whole item stays as it is, whatever comes
pub span_more : (xs ys : List ℕ) (s : Span) → span_of xs ≡ Some s → span_of (xs ++ ys) ≡ Some s
span_more [] ys s h = cc
span_more (b ∷ xs) ys s h =
    either_more (eqb b ascii.dollar) _ _ _ _ s
    (frame_more (b ∷ xs) ys s)
    (headed_more (b ∷ xs) ys (head_len (take MOST_HEAD (b ∷ xs))) s refl) h

-- it has a byte, and its bytes have come
pub span_is : (xs : List ℕ) (s : Span) → span_of xs ≡ Some s → IsSpan (length xs) s
span_is [] s h = cc
span_is (b ∷ xs) s h =
    choose_is (eqb b ascii.dollar) (length (b ∷ xs)) _ _ s
    (frame_is (b ∷ xs) s)
    (headed_is (b ∷ xs) (head_len (take MOST_HEAD (b ∷ xs))) s refl) h

-- a lone CR is no item
lone_cr : span_of (ascii.cr ∷ []) ≡ None
lone_cr = refl

span_decided : (xs : List ℕ) (s : Span) → span_of xs ≡ Some s → decided xs ≡ true
span_decided [] s h = cc
span_decided (b ∷ []) s h =
    elim (cases_Bool (eqb b ascii.cr)) [
      | inl cr ↦
          let none : span_of (b ∷ []) ≡ None = subst (λ (n : ℕ). span_of (n ∷ []) ≡ None) (sym (eqb-true b ascii.cr cr)) lone_cr in
          cc none
      | inr other ↦ ap not other
    ]
span_decided (b ∷ c ∷ xs) s h = refl

-- The first item of a stream

abbrev pub extent_at : ℕ → Span → Extent
extent_at skipped span = record { skipped = skipped; span = span }

-- what stands behind the empty lines
abbrev pub behind_blank : List ℕ → List ℕ
behind_blank xs = drop (blank_lines xs) xs

pub mapped_some : (n : ℕ) (o : Option Span) (e : Extent) → option_map (extent_at n) o ≡ Some e → (s : Span) × (o ≡ Some s) × (extent_at n s ≡ e)
mapped_some n None e h = cc
mapped_some n (Some s) e h = (s, refl, cc)

-- the span of the first item
pub extent_parts : (xs : List ℕ) (e : Extent) → first_extent xs ≡ Some e → (s : Span) × (span_of (behind_blank xs) ≡ Some s) × (extent_at (blank_lines xs) s ≡ e)
extent_parts xs e h = mapped_some (blank_lines xs) (span_of (behind_blank xs)) e h

-- what follows a whole item does not change where it stands
pub behind_blank_more : (xs ys : List ℕ) (s : Span) → span_of (behind_blank xs) ≡ Some s → (blank_lines (xs ++ ys) ≡ blank_lines xs) × (behind_blank (xs ++ ys) ≡ behind_blank xs ++ ys)
behind_blank_more xs ys s h =
    let same = blank_lines_more xs ys (span_decided (behind_blank xs) s h) in
    (same, ap (λ (n : ℕ). drop n (xs ++ ys)) same ∙ drop-append-le (blank_lines xs) xs ys (blank_lines_fit xs))

-- the first item stays when more comes
pub first_more : (xs ys : List ℕ) (e : Extent) → first_extent xs ≡ Some e → first_extent (xs ++ ys) ≡ Some e
first_more xs ys e h =
    let parts = extent_parts xs e h in
    let stays = behind_blank_more xs ys parts.0 parts.1 in
    ap (λ (n : ℕ). option_map (extent_at n) (span_of (behind_blank (xs ++ ys)))) stays.0
    ∙ ap (λ (l : List ℕ). option_map (extent_at (blank_lines xs)) (span_of l)) stays.1
    ∙ ap (option_map (extent_at (blank_lines xs))) (span_more (behind_blank xs) ys parts.0 parts.1)
    ∙ ap (λ (x : Extent). Some x) parts.2

-- The first item has a byte, and its bytes have come.
pub record IsFirstExtent (xs : List ℕ) (e : Extent) : Type 0 where
  pub not_empty : 0 < e.span.len
  pub fits : e.skipped + e.span.len ≤ length xs

pub first_is : (xs : List ℕ) (e : Extent) → first_extent xs ≡ Some e → IsFirstExtent xs e
first_is xs e h =
    let parts = extent_parts xs e h in
    let is = span_is (behind_blank xs) parts.0 parts.1 in
    subst (λ (x : Extent). IsFirstExtent xs x) parts.2
    (record { not_empty = is.not_empty; fits = omega (arith, is.fits, length-drop (blank_lines xs) xs, blank_lines_fit xs) })

-- What the code reads of it

pub span_from_dollar : (xs : List ℕ) → 0 < length xs → get_or xs 0 0 ≡ ascii.dollar → span_of xs ≡ frame_span xs
span_from_dollar [] pos at = absurd (omega arith)
span_from_dollar (b ∷ xs) pos at = ap (λ (t : Bool). cond t (frame_span (b ∷ xs)) (message_span (b ∷ xs))) (eq-eqb b ascii.dollar at)

pub span_from_other : (xs : List ℕ) → 0 < length xs → (get_or xs 0 0 ≡ ascii.dollar → ⊥) → span_of xs ≡ message_span xs
span_from_other [] pos other = absurd (omega arith)
span_from_other (b ∷ xs) pos other = ap (λ (t : Bool). cond t (frame_span (b ∷ xs)) (message_span (b ∷ xs))) (ne_eqb b ascii.dollar other)

pub span_from_nothing : (xs : List ℕ) → length xs ≡ 0 → span_of xs ≡ None
span_from_nothing xs none = ap span_of (nil_from_length xs none)

pub head_within : (xs : List ℕ) (n : ℕ) → head_len (take MOST_HEAD xs) ≡ Some n → (n ≤ length xs) × (n ≤ MOST_HEAD)
head_within xs n h =
    let fits = head_from_fits (take MOST_HEAD xs) true n h in
    (within MOST_HEAD xs n fits.1, omega (arith, length-take MOST_HEAD xs))
