-- What stands at the front of a stream, when more comes.
use Rattle.std.proofs.Common.{◌≡◌, ℕ, ◌+◌, ◌*◌, ◌<◌, ◌≤◌, Bool, true, false, cond, ltb, List, [], ◌∷◌, ◌++◌, length, take, drop, get_or, Option, Some, None, Result, Ok, Err, refl, sym, ap, ◌∙◌, subst, arith, append_assoc, take-append-drop}
use Rattle.std.specs.Option.{option_map}
use Rattle.std.proofs.lemmas.List.{take-append-le, length-append, take_all, get_or_append_left, append-nil}
use Rattle.std.proofs.lemmas.Bool.{ltb-true, le-ltb, lt-ltb, ne_eqb, eq-eqb}
use Rattle.gate_bytes.specs.Ascii as ascii
use Rattle.rtsp_head.specs.Items.{begins_blank, head_len, bad_span, when_whole, body_span, judged_span, headed_span, message_span, span_of, first_extent, message_kind, bad_kind, is_bad}
use Rattle.rtsp_head.specs.Heads.{facts_of}
use Rattle.rtsp_head.specs.declared.facts.Facts.{Facts}
use Rattle.rtsp_head.specs.declared.facts.Length.{Length}
use Rattle.rtsp_head.specs.declared.facts.Length.TheVariants as lengths
use Rattle.rtsp_head.specs.declared.fault.HeadFault.{HeadFault}
use Rattle.rtsp_head.specs.declared.item.BadKind.TheVariants as bad
use Rattle.rtsp_head.specs.declared.item.ItemKind.{ItemKind}
use Rattle.rtsp_head.specs.declared.item.ItemKind.TheVariants as kinds
use Rattle.rtsp_head.specs.declared.item.Span.{Span}
use Rattle.rtsp_head.specs.declared.item.TheConstants.{MOST_BODY, MOST_HEAD}
use Rattle.rtsp_frame.specs.declared.item_front.ItemFront.{ItemFront}
use Rattle.rtsp_frame.specs.declared.item_front.ItemFront.TheVariants.{Nothing, Frame, Line, End}
use Rattle.rtsp_frame.specs.Fronts.{if_endless, unfinished_head, OpensMessage, IsLineTo, IsHeadFront, IsItemFront, IsFrameShort, head_held}
use Rattle.rtsp_frame.specs.StreamFronts.{IsSpanFound, when_come, told_body, told_span, span_cost}
use Rattle.rtsp_frame.proofs.LineLemmas.{blank_ends}
use Rattle.rtsp_frame.proofs.HeadLemmas.{head_within_more, head_from_more}
use Rattle.rtsp_frame.proofs.ExtentLemmas.{extent_at, when_whole_from, frame_of, head_within, span_from_dollar, span_from_other}
use Rattle.rtsp_frame.proofs.ReachLemmas.{line_endless}

-- the first item, where no empty line stands first
pub at_front : (xs : List ℕ) → begins_blank xs ≡ false → first_extent xs ≡ option_map (extent_at 0) (span_of xs)
at_front xs full = ap (λ (n : ℕ). option_map (extent_at n) (span_of (drop n xs))) (blank_ends xs full)

-- Messages

pub begins_more : (xs ys : List ℕ) → OpensMessage xs → OpensMessage (xs ++ ys)
begins_more xs ys h =
    let some = h.some in
    record {
      some = omega (arith, length-append xs ys);
      full = λ more. ap begins_blank (append_assoc xs ys more) ∙ h.full (ys ++ more);
      other = λ e. h.other (sym (get_or_append_left xs ys 0 0 some) ∙ e);
    }

pub begins_full : (xs : List ℕ) → OpensMessage xs → begins_blank xs ≡ false
begins_full xs h = ap begins_blank (sym (append-nil xs)) ∙ h.full []

pub message_at_front : (xs : List ℕ) → OpensMessage xs → span_of xs ≡ message_span xs
message_at_front xs h = span_from_other xs h.some h.other

when_bad : (come n : ℕ) (kind : _) → n ≤ come → Some (bad_span kind n) ≡ when_whole come (bad_span kind n)
when_bad come n kind le = sym (when_whole_from come (bad_span kind n) le)

bytes_told : (b : Bool) (come n : ℕ) (span : Span) → n ≤ come → cond b (Some (bad_span bad.Body n)) (when_whole come span) ≡ when_whole come (cond b (bad_span bad.Body n) span)
bytes_told true come n span le = when_bad come n bad.Body le
bytes_told false come n span le = refl

body_told : (kind : ItemKind) (come n : ℕ) (len : Length) → n ≤ come → body_span kind come n len ≡ when_whole come (told_body kind n len)
body_told kind come n lengths.Absent le = refl
body_told kind come n (lengths.Bytes body) le = bytes_told (ltb MOST_BODY body) come n (record { kind = kind; len = n + body; head = n }) le
body_told kind come n lengths.Bad le = when_bad come n bad.Length le

-- a message is whole once its bytes have come
pub judged_told : (come n : ℕ) (facts : Result Facts HeadFault) → n ≤ come → judged_span come n facts ≡ when_whole come (told_span n facts)
judged_told come n (Ok facts) le = body_told (message_kind facts.request) come n facts.length le
judged_told come n (Err fault) le = when_bad come n (bad_kind fault) le

-- it has its head at least, and no more where it is bad
pub record IsTold (n : ℕ) (span : Span) : Type 0 where
  pub head : n ≤ span.len
  pub alone : is_bad span.kind ≡ true → span.len ≡ n

message_good : (request : Bool) → is_bad (message_kind request) ≡ true → is_bad kinds.Frame ≡ true
message_good true h = h
message_good false h = h

body_is_told : (request : Bool) (n : ℕ) (len : Length) → IsTold n (told_body (message_kind request) n len)
body_is_told request n lengths.Absent = record { head = omega arith; alone = λ h. let none = message_good request h in cc }
body_is_told request n (lengths.Bytes body) = by (ltb MOST_BODY body)
  where
    by : (b : Bool) → IsTold n (cond b (bad_span bad.Body n) (record { kind = message_kind request; len = n + body; head = n }))
    by true = record { head = omega arith; alone = λ h. refl }
    by false = record { head = omega arith; alone = λ h. let none = message_good request h in cc }
body_is_told request n lengths.Bad = record { head = omega arith; alone = λ h. refl }

pub is_told : (n : ℕ) (facts : Result Facts HeadFault) → IsTold n (told_span n facts)
is_told n (Ok facts) = body_is_told facts.request n facts.length
is_told n (Err fault) = record { head = omega arith; alone = λ h. refl }

-- what is whole or not by its length
pub found_when : (bytes : List ℕ) (span : Span) → span_of bytes ≡ when_whole (length bytes) span → (length bytes < span.len → IsItemFront bytes span) → IsSpanFound bytes (when_come (length bytes) span)
found_when bytes span is endless = by (ltb (length bytes) span.len) refl
  where
    by : (b : Bool) → ltb (length bytes) span.len ≡ b → IsSpanFound bytes (cond b (Err (End span)) (Ok span))
    by true less = (is ∙ ap (λ (b : Bool). cond b None (Some span)) less, endless (ltb-true (length bytes) span.len less))
    by false more = is ∙ ap (λ (b : Bool). cond b None (Some span)) more

message_done : (bytes : List ℕ) (n : ℕ) → OpensMessage bytes → head_len bytes ≡ Some n → unfinished_head bytes ≡ 0
message_done [] n h at = refl
message_done (b ∷ bytes) n h at =
    ap (λ (t : Bool). cond t 0 (if_endless (head_len (b ∷ bytes)) (length (b ∷ bytes)))) (ne_eqb b ascii.dollar h.other)
    ∙ ap (λ (o : Option ℕ). if_endless o (length (b ∷ bytes))) at

good_unless : (b : Bool) → (b ≡ true → true ≡ false) → b ≡ false
good_unless true h = h refl
good_unless false h = refl

-- the message whose head was found, with what comes
judged_more : (bytes more : List ℕ) (n : ℕ) → OpensMessage bytes → head_len (take MOST_HEAD bytes) ≡ Some n → span_of (bytes ++ more) ≡ when_whole (length (bytes ++ more)) (told_span n (facts_of (take n bytes)))
judged_more bytes more n begins at =
    let fits = head_within bytes n at in
    message_at_front (bytes ++ more) (begins_more bytes more begins)
    ∙ ap (headed_span (bytes ++ more)) (head_within_more MOST_HEAD bytes more n at)
    ∙ ap (λ (l : List ℕ). judged_span (length (bytes ++ more)) n (facts_of l)) (take-append-le n bytes more fits.0)
    ∙ judged_told (length (bytes ++ more)) n (facts_of (take n bytes)) (omega (arith, fits.0, length-append bytes more))

pub found_head : (bytes : List ℕ) (n : ℕ) → OpensMessage bytes → head_len (take MOST_HEAD bytes) ≡ Some n → IsSpanFound bytes (when_come (length bytes) (told_span n (facts_of (take n bytes))))
found_head bytes n begins at =
    let span : Span = told_span n (facts_of (take n bytes)) in
    let fits = head_within bytes n at in
    found_when bytes span
    (subst (λ (l : List ℕ). span_of l ≡ when_whole (length l) span) (append-nil bytes) (judged_more bytes [] n begins at))
    (λ short. record {
      first = λ more. at_front (bytes ++ more) (begins_full (bytes ++ more) (begins_more bytes more begins)) ∙ ap (option_map (extent_at 0)) (judged_more bytes more n begins at);
      short = short;
      full = begins.full;
      done = λ more. message_done (bytes ++ more) n (begins_more bytes more begins)
          (head_from_more bytes more true n (ap head_len (sym (take-append-drop MOST_HEAD bytes)) ∙ head_from_more (take MOST_HEAD bytes) (drop MOST_HEAD bytes) true n at));
      sound = good_unless (is_bad span.kind) (λ b. let e = (is_told n (facts_of (take n bytes))).alone b in absurd (omega (arith, e, fits.0, short)));
    })

-- a head that goes on
pub found_line : (bytes : List ℕ) (line : ℕ) → OpensMessage bytes → length bytes < MOST_HEAD → IsLineTo bytes line (length bytes) → (span_of bytes ≡ None) × IsHeadFront bytes line
found_line bytes line begins short reached = (
  message_at_front bytes begins
      ∙ ap (headed_span bytes) (ap head_len (take_all MOST_HEAD bytes (omega arith)) ∙ line_endless bytes line reached)
      ∙ ap (λ (b : Bool). cond b None (Some (bad_span bad.Head MOST_HEAD))) (lt-ltb (length bytes) MOST_HEAD short),
  record { begins = begins; reached = reached; short = short },
)

-- a head that is too long
pub found_longest : (bytes : List ℕ) (line : ℕ) → OpensMessage bytes → MOST_HEAD ≤ length bytes → IsLineTo (take MOST_HEAD bytes) line (length (take MOST_HEAD bytes)) → span_of bytes ≡ Some (bad_span bad.Head MOST_HEAD)
found_longest bytes line begins long reached =
    message_at_front bytes begins
    ∙ ap (headed_span bytes) (line_endless (take MOST_HEAD bytes) line reached)
    ∙ ap (λ (b : Bool). cond b None (Some (bad_span bad.Head MOST_HEAD))) (le-ltb (length bytes) MOST_HEAD long)

-- Frames

-- the frame whose length has come, with what comes
frame_told : (bytes more : List ℕ) → get_or bytes 0 0 ≡ ascii.dollar → 4 ≤ length bytes → span_of (bytes ++ more) ≡ when_whole (length (bytes ++ more)) (frame_of (get_or bytes 2 0) (get_or bytes 3 0))
frame_told bytes more begins enough =
    let all : List ℕ = bytes ++ more in
    let long : 4 ≤ length all = omega (arith, length-append bytes more) in
    span_from_dollar all (omega arith) (get_or_append_left bytes more 0 0 (omega arith) ∙ begins)
    ∙ ap (λ (t : Bool). cond t None (when_whole (length all) (frame_of (get_or all 2 0) (get_or all 3 0)))) (le-ltb (length all) 4 long)
    ∙ ap (λ (k : ℕ). when_whole (length all) (frame_of k (get_or all 3 0))) (get_or_append_left bytes more 0 2 (omega arith))
    ∙ ap (λ (k : ℕ). when_whole (length all) (frame_of (get_or bytes 2 0) k)) (get_or_append_left bytes more 0 3 (omega arith))

-- no empty line begins with a `$`
no_blank : (b : ℕ) (bytes : List ℕ) → b ≡ ascii.dollar → begins_blank (b ∷ bytes) ≡ false
no_blank b bytes is = subst (λ (n : ℕ). begins_blank (n ∷ bytes) ≡ false) (sym is) refl

dollar_full : (bytes : List ℕ) → get_or bytes 0 0 ≡ ascii.dollar → begins_blank bytes ≡ false
dollar_full [] begins = refl
dollar_full (b ∷ bytes) begins = no_blank b bytes begins

pub dollar_done : (bytes : List ℕ) → get_or bytes 0 0 ≡ ascii.dollar → unfinished_head bytes ≡ 0
dollar_done [] begins = refl
dollar_done (b ∷ bytes) begins = ap (λ (t : Bool). cond t 0 (if_endless (head_len (b ∷ bytes)) (length (b ∷ bytes)))) (eq-eqb b ascii.dollar begins)

pub found_frame : (bytes : List ℕ) → get_or bytes 0 0 ≡ ascii.dollar → 4 ≤ length bytes → IsSpanFound bytes (when_come (length bytes) (frame_of (get_or bytes 2 0) (get_or bytes 3 0)))
found_frame bytes begins enough =
    let span : Span = frame_of (get_or bytes 2 0) (get_or bytes 3 0) in
    found_when bytes span
    (subst (λ (l : List ℕ). span_of l ≡ when_whole (length l) span) (append-nil bytes) (frame_told bytes [] begins enough))
    (λ short. record {
      first = λ more. at_front (bytes ++ more) (dollar_full (bytes ++ more) (get_or_append_left bytes more 0 0 (omega arith) ∙ begins)) ∙ ap (option_map (extent_at 0)) (frame_told bytes more begins enough);
      short = short;
      full = λ more. dollar_full (bytes ++ more) (get_or_append_left bytes more 0 0 (omega arith) ∙ begins);
      done = λ more. dollar_done (bytes ++ more) (get_or_append_left bytes more 0 0 (omega arith) ∙ begins);
      sound = refl;
    })

-- the front of a frame whose length has not come
pub found_short : (bytes : List ℕ) → get_or bytes 0 0 ≡ ascii.dollar → 0 < length bytes → length bytes < 4 → (span_of bytes ≡ None) × IsFrameShort bytes
found_short bytes begins some short = (
  span_from_dollar bytes some begins
      ∙ ap (λ (b : Bool). cond b None (when_whole (length bytes) (frame_of (get_or bytes 2 0) (get_or bytes 3 0)))) (lt-ltb (length bytes) 4 short),
  record { begins = begins; some = some; short = short },
)

-- what pays for a head pays for the item, whole or not
pub when_cost : (come n : ℕ) (span : Span) → n ≤ span.len → n ≤ come → 6 * n ≤ span_cost come (when_come come span)
when_cost come n span le fits = by (ltb come span.len)
  where
    by : (b : Bool) → 6 * n ≤ span_cost come (cond b (Err (End span)) (Ok span))
    by true = omega arith
    by false = omega arith

-- no more of an unfinished head is held than has come
pub held_fits : (front : ItemFront) (come : ℕ) → head_held front come ≤ come
held_fits Nothing come = omega arith
held_fits Frame come = omega arith
held_fits (Line line) come = omega arith
held_fits (End span) come = omega arith
