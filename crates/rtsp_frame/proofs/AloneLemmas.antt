-- An item that stands alone is read as it was read on its stream.
use Rattle.std.proofs.Common.{◌≡◌, ℕ, zero, suc, ◌+◌, ◌<◌, ◌≤◌, Bool, true, false, cond, ◌&&◌, ◌||◌, eqb, ltb, List, [], ◌∷◌, length, take, drop, get_or, Option, Some, None, Result, Ok, Err, inl, inr, refl, sym, ap, ◌∙◌, subst, arith}
use Rattle.std.specs.Option.{option_map}
use Rattle.std.proofs.lemmas.List.{take_all, take-take, length-take-le, length-take, get_or-take}
use Rattle.std.proofs.lemmas.Bool.{eqb-true, eqb-false, ltb-false, le-ltb, cases_lt}
use Rattle.gate_bytes.specs.Ascii as ascii
use Rattle.rtsp_head.specs.Items.{begins_with_lf, begins_blank, blank_lines, head_from, head_len, bad_span, when_whole, body_span, judged_span, headed_span, message_span, frame_span, span_of, first_extent, message_kind, bad_kind}
use Rattle.rtsp_head.specs.Heads.{facts_of}
use Rattle.rtsp_head.specs.declared.facts.Facts.{Facts}
use Rattle.rtsp_head.specs.declared.facts.Length.{Length}
use Rattle.rtsp_head.specs.declared.facts.Length.TheVariants as lengths
use Rattle.rtsp_head.specs.declared.fault.HeadFault.{HeadFault}
use Rattle.rtsp_head.specs.declared.item.ItemKind.{ItemKind}
use Rattle.rtsp_head.specs.declared.item.BadKind.TheVariants as bad
use Rattle.rtsp_head.specs.declared.item.Span.{Span}
use Rattle.rtsp_head.specs.declared.item.Extent.{Extent}
use Rattle.rtsp_frame.proofs.HeadLemmas.{head_from_fits}
use Rattle.rtsp_frame.proofs.LineLemmas.{blank_ends}
use Rattle.rtsp_head.specs.declared.item.TheConstants.{MOST_BODY, MOST_HEAD}
use Rattle.rtsp_frame.proofs.ExtentLemmas.{when_whole_some, when_whole_from, not_below, unless_below, frame_of, span_is, extent_at, behind_blank, extent_parts, span_from_dollar, span_from_other}

-- Heads

front_turn : (t : Bool) (o p : Option ℕ) (n m : ℕ) → ((k : ℕ) → o ≡ Some k → k ≤ m → p ≡ Some k) → cond t (Some 1) (option_map suc o) ≡ Some n → n ≤ suc m → cond t (Some 1) (option_map suc p) ≡ Some n
front_turn true o p n m f h le = h
front_turn false None p n m f h le = cc
front_turn false (Some k) p n m f h le =
    let e : suc k ≡ n = cc in
    let below : k ≤ m = omega arith in
    ap (option_map suc) (f k refl below) ∙ h

-- a head is read from no more than its bytes
pub head_from_front : (xs : List ℕ) (starts : Bool) (n m : ℕ) → head_from starts xs ≡ Some n → n ≤ m → head_from starts (take m xs) ≡ Some n
head_from_front [] starts n m h le = cc
head_from_front (b ∷ xs) starts n zero h le = let pos = (head_from_fits (b ∷ xs) starts n h).0 in absurd (omega arith)
head_from_front (b ∷ []) starts n (suc zero) h le = h
head_from_front (b ∷ []) starts n (suc (suc m)) h le = h
head_from_front (b ∷ c ∷ xs) starts n (suc zero) h le =
    front_turn (eqb b ascii.lf && starts) _ None n 0
    (λ k at below. let pos = (head_from_fits (c ∷ xs) _ k at).0 in absurd (omega arith)) h le
head_from_front (b ∷ c ∷ xs) starts n (suc (suc m)) h le =
    front_turn (eqb b ascii.lf && starts) _ _ n (suc m)
    (λ k at below. head_from_front (c ∷ xs) _ k (suc m) at below) h le

-- the same within the longest head
head_len_front : (most : ℕ) (xs : List ℕ) (n m : ℕ) → head_len (take most xs) ≡ Some n → n ≤ m → head_len (take most (take m xs)) ≡ Some n
head_len_front most xs n m h le =
    elim (cases_lt m most) [
      | inl less ↦
          let short : take most (take m xs) ≡ take m xs = take_all most (take m xs) (omega (arith, length-take m xs)) in
          let same : take m (take most xs) ≡ take m xs = take-take m most xs (omega arith) in
          ap head_len (short ∙ sym same) ∙ head_from_front (take most xs) true n m h le
      | inr more ↦ ap head_len (take-take most m xs more) ∙ h
    ]

-- Messages

whole_alone : (come n : ℕ) (span s : Span) → n ≤ span.len → when_whole come span ≡ Some s → (n ≤ s.len) × (when_whole s.len span ≡ Some s)
whole_alone come n span s le h =
    let same = (when_whole_some come span s h).1 in
    subst (λ (x : Span). (n ≤ x.len) × (when_whole x.len span ≡ Some x)) same
    (le, when_whole_from span.len span (omega arith))

some_alone : (n : ℕ) (span s : Span) → n ≤ span.len → Some span ≡ Some s → n ≤ s.len
some_alone n span s le h = let same : span ≡ s = cc in subst (λ (x : Span). n ≤ x.len) same le

-- what is the same for so many bytes as come and for its own
abbrev pub Alone : ℕ → (ℕ → Option Span) → Span → Type 0
Alone n at s = (n ≤ s.len) × (at s.len ≡ Some s)

either_alone : (b : Bool) (n come : ℕ) (span s : Span) (at : ℕ → Option Span) → n ≤ span.len → (at come ≡ Some s → Alone n at s) → cond b (Some span) (at come) ≡ Some s → Alone n (λ k. cond b (Some span) (at k)) s
either_alone true n come span s at le f h = (some_alone n span s le h, h)
either_alone false n come span s at le f h = f h

body_alone : (kind : ItemKind) (come n : ℕ) (len : Length) (s : Span) → body_span kind come n len ≡ Some s → Alone n (λ k. body_span kind k n len) s
body_alone kind come n lengths.Absent s h = whole_alone come n _ s (omega arith) h
body_alone kind come n (lengths.Bytes body) s h =
    either_alone (ltb MOST_BODY body) n come (bad_span bad.Body n) s
    (λ k. when_whole k (record { kind = kind; len = n + body; head = n })) (omega arith)
    (whole_alone come n (record { kind = kind; len = n + body; head = n }) s (omega arith)) h
body_alone kind come n lengths.Bad s h = (some_alone n (bad_span bad.Length n) s (omega arith) h, h)

judged_alone : (come n : ℕ) (facts : Result Facts HeadFault) (s : Span) → judged_span come n facts ≡ Some s → Alone n (λ k. judged_span k n facts) s
judged_alone come n (Ok facts) s h = body_alone (message_kind facts.request) come n facts.length s h
judged_alone come n (Err fault) s h = (some_alone n (bad_span (bad_kind fault) n) s (omega arith) h, h)

headed_alone : (xs : List ℕ) (o : Option ℕ) (s : Span) → s.len ≤ length xs → head_len (take MOST_HEAD xs) ≡ o → headed_span xs o ≡ Some s → message_span (take s.len xs) ≡ Some s
headed_alone xs None s fits at h =
    let parts = unless_below (ltb (length xs) MOST_HEAD) (bad_span bad.Head MOST_HEAD) s h in
    let enough = ltb-false (length xs) MOST_HEAD parts.0 in
    let none : head_len (take MOST_HEAD (take MOST_HEAD xs)) ≡ None = ap head_len (take-take MOST_HEAD MOST_HEAD xs (omega arith)) ∙ at in
    let come : length (take MOST_HEAD xs) ≡ MOST_HEAD = length-take-le MOST_HEAD xs enough in
    subst (λ (x : Span). message_span (take x.len xs) ≡ Some x) parts.1
    (ap (headed_span (take MOST_HEAD xs)) none
    ∙ ap (λ (b : Bool). cond b None (Some (bad_span bad.Head MOST_HEAD))) (le-ltb (length (take MOST_HEAD xs)) MOST_HEAD (omega arith)))
headed_alone xs (Some n) s fits at h =
    let alone = judged_alone (length xs) n (facts_of (take n xs)) s h in
    ap (headed_span (take s.len xs)) (head_len_front MOST_HEAD xs n s.len at alone.0)
    ∙ ap (λ (come : ℕ). judged_span come n (facts_of (take n (take s.len xs)))) (length-take-le s.len xs fits)
    ∙ ap (λ (head : List ℕ). judged_span s.len n (facts_of head)) (take-take n s.len xs alone.0)
    ∙ alone.1

-- Frames

frame_alone : (xs : List ℕ) (s : Span) → s.len ≤ length xs → frame_span xs ≡ Some s → frame_span (take s.len xs) ≡ Some s
frame_alone xs s fits h =
    let parts = not_below (ltb (length xs) 4) (when_whole (length xs) (frame_of (get_or xs 2 0) (get_or xs 3 0))) s h in
    let alone = whole_alone (length xs) 4 (frame_of (get_or xs 2 0) (get_or xs 3 0)) s (omega arith) parts.1 in
    let four = alone.0 in
    let come : length (take s.len xs) ≡ s.len = length-take-le s.len xs fits in
    let high = get_or-take s.len xs 2 0 (omega arith) in
    let low = get_or-take s.len xs 3 0 (omega arith) in
    ap (λ (b : Bool). cond b None (when_whole (length (take s.len xs)) (frame_of (get_or (take s.len xs) 2 0) (get_or (take s.len xs) 3 0))))
    (le-ltb (length (take s.len xs)) 4 (omega arith))
    ∙ ap (λ (n : ℕ). when_whole n (frame_of (get_or (take s.len xs) 2 0) (get_or (take s.len xs) 3 0))) come
    ∙ ap (λ (n : ℕ). when_whole s.len (frame_of n (get_or (take s.len xs) 3 0))) high
    ∙ ap (λ (n : ℕ). when_whole s.len (frame_of (get_or xs 2 0) n)) low
    ∙ alone.1

-- Either

pub either_is : (t : Bool) (o p : Option Span) (s : Span) (P : Type 0) → (t ≡ true → o ≡ Some s → P) → (t ≡ false → p ≡ Some s → P) → cond t o p ≡ Some s → P
either_is true o p s P f g h = f refl h
either_is false o p s P f g h = g refl h

span_alone : (xs : List ℕ) (s : Span) → span_of xs ≡ Some s → span_of (take s.len xs) ≡ Some s
span_alone [] s h = cc
span_alone (b ∷ xs) s h =
    let is = span_is (b ∷ xs) s h in
    let fits = is.fits in
    let not_empty = is.not_empty in
    let come : length (take s.len (b ∷ xs)) ≡ s.len = length-take-le s.len (b ∷ xs) fits in
    let pos : 0 < length (take s.len (b ∷ xs)) = omega arith in
    let first : get_or (take s.len (b ∷ xs)) 0 0 ≡ b = get_or-take s.len (b ∷ xs) 0 0 not_empty in
    either_is (eqb b ascii.dollar) (frame_span (b ∷ xs)) (message_span (b ∷ xs)) s (span_of (take s.len (b ∷ xs)) ≡ Some s)
    (λ dollar at.
    span_from_dollar (take s.len (b ∷ xs)) pos (first ∙ eqb-true b ascii.dollar dollar) ∙ frame_alone (b ∷ xs) s fits at)
    (λ other at.
    span_from_other (take s.len (b ∷ xs)) pos (λ e. eqb-false b ascii.dollar other (sym first ∙ e))
    ∙ headed_alone (b ∷ xs) (head_len (take MOST_HEAD (b ∷ xs))) s fits refl at) h

-- Empty lines

blank_turn : (t : Bool) (b : ℕ) (xs : List ℕ) (k : ℕ) → begins_blank (b ∷ xs) ≡ t → begins_blank (drop k xs) ≡ false → begins_blank (drop (cond t (suc k) 0) (b ∷ xs)) ≡ false
blank_turn true b xs k e h = h
blank_turn false b xs k e h = e

-- no empty line stands behind the empty lines
pub none_behind : (xs : List ℕ) → begins_blank (behind_blank xs) ≡ false
none_behind [] = refl
none_behind (b ∷ xs) = blank_turn (begins_blank (b ∷ xs)) b xs (blank_lines xs) refl (none_behind xs)

cut_short : (ten cr lf : Bool) → (ten || (cr && lf)) ≡ false → (ten || (cr && false)) ≡ false
cut_short true cr lf h = h
cut_short false true lf h = refl
cut_short false false lf h = refl

-- nor at the front of less
pub none_in_front : (n : ℕ) (xs : List ℕ) → begins_blank xs ≡ false → begins_blank (take n xs) ≡ false
none_in_front zero xs h = refl
none_in_front (suc n) [] h = refl
none_in_front (suc zero) (b ∷ xs) h = cut_short (eqb b ascii.lf) (eqb b ascii.cr) (begins_with_lf xs) h
none_in_front (suc (suc n)) (b ∷ []) h = h
none_in_front (suc (suc n)) (b ∷ c ∷ xs) h = h

alone_at : (bytes : List ℕ) (s : Span) → blank_lines bytes ≡ 0 → length bytes ≡ s.len → span_of bytes ≡ Some s → first_extent bytes ≡ Some (record { skipped = 0; span = record { kind = s.kind; len = length bytes; head = s.head } })
alone_at bytes s none come h =
    ap (λ (n : ℕ). option_map (extent_at n) (span_of (drop n bytes))) none
    ∙ ap (option_map (extent_at 0)) h
    ∙ ap (λ (n : ℕ). Some (record { skipped = 0; span = record { kind = s.kind; len = n; head = s.head } })) (sym come)

-- The first item of a stream, alone, is whole.
pub first_alone : (xs : List ℕ) (e : Extent) → first_extent xs ≡ Some e → first_extent (take e.span.len (drop e.skipped xs)) ≡ Some (record { skipped = 0; span = record { kind = e.span.kind; len = length (take e.span.len (drop e.skipped xs)); head = e.span.head } })
first_alone xs e h =
    let parts = extent_parts xs e h in
    let s = parts.0 in
    let bytes = take s.len (behind_blank xs) in
    let none : blank_lines bytes ≡ 0 = blank_ends bytes (none_in_front s.len (behind_blank xs) (none_behind xs)) in
    let come : length bytes ≡ s.len = length-take-le s.len (behind_blank xs) (span_is (behind_blank xs) s parts.1).fits in
    subst (λ (x : Extent). first_extent (take x.span.len (drop x.skipped xs)) ≡ Some (record { skipped = 0; span = record { kind = x.span.kind; len = length (take x.span.len (drop x.skipped xs)); head = x.span.head } }))
    parts.2
    (alone_at bytes s none come (span_alone (behind_blank xs) s parts.1))
