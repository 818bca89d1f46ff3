-- What is known of what is held, once more has come.
use Rattle.std.proofs.Common.{◌≡◌, ℕ, zero, suc, ◌+◌, ◌-◌, ◌*◌, ◌<◌, ◌≤◌, ◌&&◌, ◌||◌, Bool, true, false, cond, eqb, ltb, List, [], ◌∷◌, ◌++◌, length, take, drop, get_or, Option, Some, None, is_some, Result, Ok, Err, refl, sym, ap, ◌∙◌, subst, arith, append_assoc, take-append-drop}
use Rattle.std.specs.Option.{option_map}
use Rattle.std.specs.Result.{IfOk}
use Rattle.std.proofs.lemmas.List.{length-append, length-take-le, append-nil, drop_at, take_all, take-take}
use Rattle.std.proofs.lemmas.Bool.{ltb-true, eqb-true, ne_eqb}
use Rattle.gate_bytes.specs.Ascii as ascii
use Rattle.gate_bytes.specs.Places.{place_of}
use Rattle.rtsp_head.specs.Items.{begins_with_lf, begins_blank, head_len, when_whole, span_of, first_extent, cut_with, cut}
use Rattle.rtsp_head.specs.declared.item.Extent.{Extent}
use Rattle.rtsp_head.specs.declared.item.TheConstants.{MOST_HEAD}
use Rattle.rtsp_head.specs.declared.item.Span.{Span}
use Rattle.rtsp_frame.specs.declared.item_front.ItemFront.{ItemFront}
use Rattle.rtsp_frame.specs.declared.item_front.ItemFront.TheVariants.{Nothing, Frame, Line, End}
use Rattle.rtsp_frame.specs.Fronts.{if_endless, unfinished_head, OpensMessage, IsLineTo, IsHeadFront, IsItemFront, IsNextToNothing, IsKnownFront, head_held}
use Rattle.rtsp_frame.specs.StreamFronts.{IsSpanFound, IsStreamFront, at_once, when_come, span_cost, owed}
use Rattle.rtsp_frame.proofs.LineLemmas.{blank_ends}
use Rattle.rtsp_frame.proofs.ExtentLemmas.{extent_at, span_is}
use Rattle.rtsp_frame.proofs.ReachLemmas.{reached_more, line_last, line_endless}
use Rattle.rtsp_frame.proofs.FrontLemmas.{at_front, begins_full, begins_more, dollar_done, found_line, held_fits}
use Rattle.rtsp_frame.proofs.CutLemmas.{cut_step}

-- A message begins where no empty line and no frame does, and no CR stands alone.

lone_full : (ten cr : Bool) (lf : Bool) → (ten || (cr && false)) ≡ false → (cr ≡ true → true ≡ false) → (ten || (cr && lf)) ≡ false
lone_full true cr lf h none = h
lone_full false true lf h none = let e = none refl in cc
lone_full false false lf h none = refl

full_more : (bytes : List ℕ) → begins_blank bytes ≡ false → 0 < length bytes → (get_or bytes 0 0 ≡ ascii.cr → length bytes ≡ 1 → ⊥) → (more : List ℕ) → begins_blank (bytes ++ more) ≡ false
full_more [] full some lone more = absurd (omega arith)
full_more (b ∷ []) full some lone more =
    lone_full (eqb b ascii.lf) (eqb b ascii.cr) (begins_with_lf more) full (λ cr. absurd (lone (eqb-true b ascii.cr cr) (omega arith)))
full_more (b ∷ c ∷ bytes) full some lone more = full

pub begins_message : (bytes : List ℕ) → begins_blank bytes ≡ false → 0 < length bytes → (get_or bytes 0 0 ≡ ascii.dollar → ⊥) → (get_or bytes 0 0 ≡ ascii.cr → length bytes ≡ 1 → ⊥) → OpensMessage bytes
begins_message bytes full some other lone = record { some = some; full = full_more bytes full some lone; other = other }

-- a CR alone is no item yet
pub lone_return : (bytes : List ℕ) → get_or bytes 0 0 ≡ ascii.cr → length bytes ≡ 1 → (span_of bytes ≡ None) × IsNextToNothing bytes
lone_return [] begins lone = absurd (omega arith)
lone_return (b ∷ []) begins lone =
    let P : ℕ → Type 0 = λ n. (span_of (n ∷ []) ≡ None) × IsNextToNothing (n ∷ []) in
    subst P (sym begins) (refl, record { short = omega arith; all = refl })
lone_return (b ∷ c ∷ bytes) begins lone = absurd (omega arith)

-- What stands first where no empty line does

pub stream_of_span : (bytes : List ℕ) (found : Result Span ItemFront) → begins_blank bytes ≡ false → IsSpanFound bytes found → IsStreamFront bytes (at_once found)
stream_of_span bytes (Ok span) full h = at_front bytes full ∙ ap (option_map (extent_at 0)) h
stream_of_span bytes (Err front) full h = (at_front bytes full ∙ ap (option_map (extent_at 0)) h.0, sym (blank_ends bytes full), h.1)

-- what pays for it pays for what follows
pub paid_once : (bytes : List ℕ) (found : Result Span ItemFront) (held : ℕ) → held ≤ length bytes → IsSpanFound bytes found → IfOk found (λ span. held < span.len)
    → span_cost (length bytes) found + owed (at_once found) (length bytes) ≤ 6 * held + 8 * (length bytes - held)
paid_once bytes (Ok span) held within h more =
    let fits = (span_is bytes span h).fits in
    omega arith
paid_once bytes (Err front) held within h more =
    let same : length bytes - 0 ≡ length bytes = omega arith in
    let due = ap (head_held front) same in
    let fits = held_fits front (length bytes) in
    omega arith

-- What was known of the bytes that were held

pub begins_known : (bytes : List ℕ) (held line : ℕ) → IsHeadFront (take held bytes) line → OpensMessage bytes
begins_known bytes held line h =
    subst (λ (l : List ℕ). OpensMessage l) (take-append-drop held bytes) (begins_more (take held bytes) (drop held bytes) h.begins)

pub reached_known : (bytes : List ℕ) (held line : ℕ) → held ≤ length bytes → IsHeadFront (take held bytes) line → IsLineTo bytes line held
reached_known bytes held line within h =
    subst (λ (n : ℕ). IsLineTo bytes line n) (length-take-le held bytes within)
    (subst (λ (l : List ℕ). IsLineTo l line (length (take held bytes))) (take-append-drop held bytes)
    (reached_more (take held bytes) (drop held bytes) line (length (take held bytes)) h.reached))

endless_more : (bytes more : List ℕ) (span : Span) → IsItemFront bytes span → length (bytes ++ more) < span.len → IsItemFront (bytes ++ more) span
endless_more bytes more span h short = record {
  first = λ later.
      ap first_extent (append_assoc bytes more later)
      ∙ h.first (more ++ later)
      ∙ ap (λ (l : List ℕ). option_map (extent_at 0) (when_whole (length l) span)) (sym (append_assoc bytes more later));
  short = short;
  full = λ later. ap begins_blank (append_assoc bytes more later) ∙ h.full (more ++ later);
  done = λ later. ap unfinished_head (append_assoc bytes more later) ∙ h.done (more ++ later);
  sound = h.sound;
}

end_more : (bytes more : List ℕ) (span : Span) (b : Bool) → ltb (length (bytes ++ more)) span.len ≡ b → IsItemFront bytes span → IsStreamFront (bytes ++ more) (at_once (cond b (Err (End span)) (Ok span)))
end_more bytes more span true less h = (
  h.first more ∙ ap (λ (b : Bool). option_map (extent_at 0) (cond b None (Some span))) less,
  sym (blank_ends (bytes ++ more) (h.full more)),
  endless_more bytes more span h (ltb-true (length (bytes ++ more)) span.len less),
)
end_more bytes more span false enough h = h.first more ∙ ap (λ (b : Bool). option_map (extent_at 0) (cond b None (Some span))) enough

pub end_known : (bytes : List ℕ) (held : ℕ) (span : Span) → IsItemFront (take held bytes) span → IsStreamFront bytes (at_once (when_come (length bytes) span))
end_known bytes held span h =
    subst (λ (l : List ℕ). IsStreamFront l (at_once (when_come (length l) span))) (take-append-drop held bytes)
    (end_more (take held bytes) (drop held bytes) span (ltb (length (take held bytes ++ drop held bytes)) span.len) refl h)

-- How much of it is an unfinished head

line_unfinished : (bytes : List ℕ) (line : ℕ) → IsHeadFront bytes line → unfinished_head bytes ≡ length bytes
line_unfinished [] line h = refl
line_unfinished (b ∷ bytes) line h =
    ap (λ (t : Bool). cond t 0 (if_endless (head_len (b ∷ bytes)) (length (b ∷ bytes)))) (ne_eqb b ascii.dollar h.begins.other)
    ∙ ap (λ (o : Option ℕ). if_endless o (length (b ∷ bytes))) (line_endless (b ∷ bytes) line h.reached)

pub front_unfinished : (bytes : List ℕ) (front : ItemFront) → IsKnownFront bytes front → unfinished_head bytes ≡ head_held front (length bytes)
front_unfinished bytes Nothing h = h.all
front_unfinished bytes Frame h = dollar_done bytes h.begins
front_unfinished bytes (Line line) h = line_unfinished bytes line h
front_unfinished bytes (End span) h = ap unfinished_head (sym (append-nil bytes)) ∙ h.done []

-- Pieces of a head

none_step : (t : Bool) (o p : Option ℕ) (j : ℕ) → (o ≡ Some j → p ≡ None) → cond t (Some 0) (option_map (λ n. n + 1) o) ≡ Some (suc j) → cond t (Some 0) (option_map (λ n. n + 1) p) ≡ None
none_step true o p j f h = grind arith
none_step false None p j f h = cc
none_step false (Some m) p j f h = let same : m ≡ j = grind arith in ap (option_map (λ n. n + 1)) (f (ap (λ n. Some n) same))

-- a byte stands nowhere before its first place
pub none_before : (byte : ℕ) (text : List ℕ) (k : ℕ) → place_of byte text ≡ Some k → place_of byte (take k text) ≡ None
none_before byte text zero at = refl
none_before byte [] (suc k) at = cc
none_before byte (b ∷ text) (suc k) at = none_step (eqb b byte) (place_of byte text) (place_of byte (take k text)) k (none_before byte text k) at

-- the last line of a head goes on in a piece, as far as no line ends there
pub line_clear : (bytes piece : List ℕ) (line clear : ℕ) → clear ≤ length piece → IsLineTo bytes line (length bytes) → place_of ascii.lf (take clear piece) ≡ None → IsLineTo (bytes ++ piece) line (length bytes + clear)
line_clear bytes piece line clear within h none =
    let part : List ℕ = take clear piece in
    let long : length (bytes ++ part) ≡ length bytes + clear = length-append bytes part ∙ ap (λ (n : ℕ). length bytes + n) (length-take-le clear piece within) in
    let nothing : place_of ascii.lf (drop (length bytes) (bytes ++ part)) ≡ None = ap (place_of ascii.lf) (drop_at bytes part (length bytes) refl) ∙ none in
    subst (λ (l : List ℕ). IsLineTo l line (length bytes + clear)) (append_assoc bytes part (drop clear piece) ∙ ap (λ (l : List ℕ). bytes ++ l) (take-append-drop clear piece))
    (reached_more (bytes ++ part) (drop clear piece) line (length bytes + clear)
    (subst (λ (n : ℕ). IsLineTo (bytes ++ part) line n) long (line_last (bytes ++ part) line (length bytes) (reached_more bytes part line (length bytes) h) nothing)))

-- nothing is cut from a head that goes on
pub none_cut : (bytes : List ℕ) (line : ℕ) → IsHeadFront bytes line → cut bytes ≡ record { items = []; rest = Some bytes }
none_cut bytes line h =
    let full = begins_full bytes h.begins in
    cut_step bytes
    ∙ ap (λ (o : Option Extent). cut_with o bytes cut) (at_front bytes full ∙ ap (option_map (extent_at 0)) (found_line bytes line h.begins h.short h.reached).0)
    ∙ ap (λ (n : ℕ). record { items = []; rest = Some (drop n bytes) }) (blank_ends bytes full)

-- where there is no place, none was found
pub none_found : (r : Option ℕ) → is_some r ≡ false → r ≡ None
none_found None h = refl
none_found (Some at) h = absurd (cc h)

-- a head with a piece in which no line ends
pub head_clear : (bytes piece : List ℕ) (line : ℕ) → IsHeadFront bytes line → place_of ascii.lf (take (length piece) piece) ≡ None → length (bytes ++ piece) < MOST_HEAD → IsHeadFront (bytes ++ piece) line
head_clear bytes piece line h none short = record {
  begins = begins_more bytes piece h.begins;
  reached = subst (λ (n : ℕ). IsLineTo (bytes ++ piece) line n) (sym (length-append bytes piece)) (line_clear bytes piece line (length piece) (omega arith) h.reached none);
  short = short;
}

-- what was looked at is all of the piece
pub clear_all : (piece : List ℕ) (room clear : ℕ) → length piece ≤ clear → place_of ascii.lf (take clear (take room piece)) ≡ None → clear ≤ room → place_of ascii.lf (take (length piece) piece) ≡ None
clear_all piece room clear whole none fits =
    ap (place_of ascii.lf) (take_all (length piece) piece (omega arith) ∙ sym (take_all clear piece whole) ∙ sym (take-take clear room piece fits)) ∙ none
