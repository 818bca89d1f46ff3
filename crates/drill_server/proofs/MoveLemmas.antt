-- What a framer gave, item by item.
use Rattle.std.proofs.Common.{◌≡◌, ℕ, List, [], ◌∷◌, ◌++◌, length, drop, append_assoc, sym, ap, ◌∙◌, subst}
use Rattle.std.proofs.lemmas.List.{append-nil}
use Rattle.std.proofs.lemmas.List.Elements.{filter-append}
use Rattle.std.proofs.Math.Seq.{drop-append_seam}
use Rattle.rtsp_head.specs.Items.{Shape, items_of}
use Rattle.rtsp_frame.specs.FramerState.{HeldBytes, Framed}
use Rattle.drill_server.specs.ServerSteps.{is_request_kind, requests_among, items_added, serving_fed, ServerDesk, IsDrained, Serves, Serving, Moved}

pub moved_none : (held : HeldBytes) (waited : List Shape) → Moved held held waited waited
moved_none held waited = record {
  more = [];
  framed = λ stream given h. subst (λ (g : List Shape). Framed held stream g) (sym (append-nil given)) h;
  waits = sym (append-nil waited);
}

-- one item more
pub moved_on : (old mid new : HeldBytes) (waited before now : List Shape) (item : Shape) → Moved old mid waited before
    → ((stream : List ℕ) (given : List Shape) → Framed mid stream given → Framed new stream (given ++ item ∷ []))
    → now ≡ before ++ requests_among (item ∷ []) → Moved old new waited now
moved_on old mid new waited before now item moved gives waits = record {
  more = moved.more ++ item ∷ [];
  framed = λ stream given h. subst (λ (g : List Shape). Framed new stream g) (append_assoc given moved.more (item ∷ [])) (gives stream (given ++ moved.more) (moved.framed stream given h));
  waits =
      waits
      ∙ ap (λ (l : List Shape). l ++ requests_among (item ∷ [])) moved.waits
      ∙ append_assoc waited (requests_among moved.more) (requests_among (item ∷ []))
      ∙ ap (λ (l : List Shape). waited ++ l) (sym (filter-append (λ (shape : Shape). is_request_kind shape.kind) moved.more (item ∷ [])));
}

-- The framer gave all items.
pub moved_all : (old mid new : HeldBytes) (waited now : List Shape) → Moved old mid waited now
    → ((stream : List ℕ) (given : List Shape) → Framed mid stream given → Framed new stream given × (given ≡ items_of stream))
    → (stream : List ℕ) (given : List Shape) → Framed old stream given
    → Framed new stream (items_of stream) × (now ≡ waited ++ requests_among (drop (length given) (items_of stream)))
moved_all old mid new waited now moved ends stream given h =
    let done = ends stream (given ++ moved.more) (moved.framed stream given h) in
    let more : drop (length given) (items_of stream) ≡ moved.more = ap (λ (l : List Shape). drop (length given) l) (sym done.1) ∙ drop-append_seam given moved.more in (
      subst (λ (l : List Shape). Framed new stream l) done.1 done.0,
      moved.waits ∙ ap (λ (l : List Shape). waited ++ requests_among l) (sym more),
    )

-- a server that a piece came to
pub serves_fed : (desk : ServerDesk) (serving : Serving) (piece : List ℕ) (new : HeldBytes) (waiting : List Shape) → Serves desk serving
    → ((stream : List ℕ) (given : List Shape) → Framed desk.framer stream given
    → Framed new (stream ++ piece) (items_of (stream ++ piece)) × (waiting ≡ desk.waiting ++ requests_among (drop (length given) (items_of (stream ++ piece)))))
    → Serves (record { framer = new; waiting = waiting; sessions = desk.sessions; tracks = desk.tracks; notifies = desk.notifies }) (serving_fed serving piece)
serves_fed desk serving piece new waiting serves moves =
    let done = moves serving.heard (items_of serving.heard) serves.framed in
    record {
      framed = done.0;
      waiting = done.1 ∙ ap (λ (l : List Shape). l ++ requests_among (items_added serving.heard piece)) serves.waiting;
      sessions = serves.sessions;
      tracks = serves.tracks;
      notifies = serves.notifies;
    }

-- A framer that gave all its items, was fed and gave all again.
pub drained_fed : (old new : HeldBytes) (piece : List ℕ) (waited now : List Shape) → IsDrained old
    → ((stream : List ℕ) (given : List Shape) → Framed old stream given
    → Framed new (stream ++ piece) (items_of (stream ++ piece)) × (now ≡ waited ++ requests_among (drop (length given) (items_of (stream ++ piece)))))
    → IsDrained new
drained_fed old new piece waited now drained moves = record {
  stream = drained.stream ++ piece;
  framed = (moves drained.stream (items_of drained.stream) drained.framed).0;
}

-- What was fed and what was given then.
pub moved_fed : (old fed new : HeldBytes) (piece : List ℕ) (waited room now : List Shape) → room ≡ waited
    → ((stream : List ℕ) (given : List Shape) → Framed old stream given → Framed fed (stream ++ piece) given)
    → ((stream : List ℕ) (given : List Shape) → Framed fed stream given → Framed new stream (items_of stream) × (now ≡ room ++ requests_among (drop (length given) (items_of stream))))
    → (stream : List ℕ) (given : List Shape) → Framed old stream given
    → Framed new (stream ++ piece) (items_of (stream ++ piece)) × (now ≡ waited ++ requests_among (drop (length given) (items_of (stream ++ piece))))
moved_fed old fed new piece waited room now same feeds moves stream given h =
    let done = moves (stream ++ piece) given (feeds stream given h) in (
      done.0,
      done.1 ∙ ap (λ (l : List Shape). l ++ requests_among (drop (length given) (items_of (stream ++ piece)))) same,
    )
