-- A framer that is fed piece by piece, and gives item by item.
use Rattle.std.proofs.Common.{◌≡◌, ℕ, ◌==◌, true, length, List, [], ◌∷◌, ◌++◌, take, drop, sym, ap, ◌∙◌, subst, append_assoc, refl, arith}
use Rattle.std.proofs.lemmas.List.{append-nil, take-append-drop, map-append}
use Rattle.rtsp_head.specs.Items.{Shape}
use Rattle.rtsp_head.specs.Shapes.{shape_of, shapes}
use Rattle.rtsp_head.specs.declared.item.Item.{Item}
use Rattle.rtsp_frame.specs.FramerState.{HeldBytes, Framed}
use Rattle.drill_run.specs.FramerSteps.{FrontFed, HasGiven}

pub front_none : (held : HeldBytes) (text : List ℕ) → FrontFed held held text text
front_none held text = record {
  front = [];
  whole = refl;
  framed = λ stream given h. subst (λ (s : List ℕ). Framed held s given) (sym (append-nil stream)) h;
}

pub front_more : (old mid new : HeldBytes) (text rest left piece : List ℕ) (at : ℕ) → FrontFed old mid text rest → piece ≡ take at rest → left ≡ drop at rest
    → ((stream : List ℕ) (given : List Shape) → Framed mid stream given → Framed new (stream ++ piece) given) → FrontFed old new text left
front_more old mid new text rest left piece at fed piece_is left_is feeds = record {
  front = fed.front ++ piece;
  whole =
      append_assoc fed.front piece left
      ∙ ap (λ (l : List ℕ). fed.front ++ (l ++ left)) piece_is
      ∙ ap (λ (l : List ℕ). fed.front ++ (take at rest ++ l)) left_is
      ∙ ap (λ (l : List ℕ). fed.front ++ l) (take-append-drop at rest)
      ∙ fed.whole;
  framed = λ stream given h. subst (λ (s : List ℕ). Framed new s given) (append_assoc stream fed.front piece) (feeds (stream ++ fed.front) given (fed.framed stream given h));
}

-- nothing is left
pub front_all : (old new : HeldBytes) (text rest : List ℕ) → FrontFed old new text rest → rest ≡ []
    → (stream : List ℕ) (given : List Shape) → Framed old stream given → Framed new (stream ++ text) given
front_all old new text rest fed none stream given h =
    let all : fed.front ≡ text = sym (append-nil fed.front) ∙ ap (λ (l : List ℕ). fed.front ++ l) (sym none) ∙ fed.whole in
    subst (λ (l : List ℕ). Framed new (stream ++ l) given) all (fed.framed stream given h)

pub given_none : (held : HeldBytes) (items : List Item) → items ≡ [] → HasGiven held held (shapes items)
given_none held items none = record { framed = λ stream h. subst (λ (l : List Item). Framed held stream (shapes l)) (sym none) h }

pub given_more : (old mid new : HeldBytes) (before after : List Item) (item : Item) → HasGiven old mid (shapes before)
    → ((stream : List ℕ) (given : List Shape) → Framed mid stream given → Framed new stream (given ++ shape_of item ∷ []))
    → after ≡ before ++ item ∷ [] → HasGiven old new (shapes after)
given_more old mid new before after item given gives now = record {
  framed = λ stream h.
      subst (λ (l : List Shape). Framed new stream l) (sym (map-append shape_of before (item ∷ [])) ∙ ap shapes (sym now)) (gives stream (shapes before) (given.framed stream h));
}

pub no_bytes_left : (bytes : List ℕ) → true ≡ (length bytes == 0) → bytes ≡ []
no_bytes_left [] none = refl
no_bytes_left (b ∷ bytes) none = absurd (grind arith)
