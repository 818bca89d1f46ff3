-- What an inlet has given, at a read more.
use Rattle.std.proofs.Common.{◌≡◌, ℕ, Bool, true, false, true≢false, List, [], ◌++◌, take, drop, Option, Some, None, refl, sym, ap, ◌∙◌, subst, append_assoc}
use Rattle.std.proofs.lemmas.List.{append-nil, take-append-drop}
use Rattle.rtsp_head.specs.Items.{Shape}
use Rattle.rtsp_head.specs.declared.item.Item.{Item}
use Rattle.rtsp_frame.specs.FramerState.{HeldBytes, Framed}
use Rattle.gate_outside.specs.Contents.{ReadsOk}
use Rattle.client_ports.specs.declared.parcel.Parcel.{Parcel}
use Rattle.gateway_links.specs.ReadItems.{GaveBytes, PutsItems, ReadsItemsSo, ReadsFrontSo}

-- what was told first, where this much more was taken
told_more : (given piece bytes rest : List ℕ) → piece ++ rest ≡ bytes → (given ++ piece) ++ rest ≡ given ++ bytes
told_more given piece bytes rest h = append_assoc given piece rest ∙ ap (λ (l : List ℕ). given ++ l) h

-- one read gave the first bytes of the buffer
pub gave_more : (first left now : Option (List ℕ)) (given buffer : List ℕ) (n : ℕ) → GaveBytes first left given → ReadsOk left now n buffer → GaveBytes first now (given ++ take n buffer)
gave_more first None now given buffer n h read = subst (λ (o : Option (List ℕ)). GaveBytes first o (given ++ take n buffer)) (sym read) h
gave_more first (Some bytes) now given buffer n h read =
    let split : take n buffer ++ drop n bytes ≡ bytes = ap (λ (l : List ℕ). l ++ drop n bytes) read.front ∙ take-append-drop n bytes in
    subst (λ (o : Option (List ℕ)). GaveBytes first o (given ++ take n buffer)) (sym read.left)
    (h ∙ ap (λ (l : List ℕ). let told : Option (List ℕ) = Some l in told) (sym (told_more given (take n buffer) bytes (drop n bytes) split)))

-- bytes more were framed
pub puts_more : (held now : HeldBytes) (seen piece : List ℕ) (put : List Parcel) (waiting : Option Item) → ((stream : List ℕ) (given : List Shape) → Framed held stream given → Framed now (stream ++ piece) given) → PutsItems held seen put waiting → PutsItems now (seen ++ piece) put waiting
puts_more held now seen piece put waiting fed h = record { items = h.items; framed = fed seen _ h.framed; put_is = h.put_is }

pub reads_more : (first left left_now : Option (List ℕ)) (held now : HeldBytes) (put : List Parcel) (waiting : Option Item) (buffer : List ℕ) (n : ℕ) → ReadsOk left left_now n buffer → ((stream : List ℕ) (given : List Shape) → Framed held stream given → Framed now (stream ++ take n buffer) given) → ReadsItemsSo first left held put waiting → ReadsItemsSo first left_now now put waiting
reads_more first left left_now held now put waiting buffer n read fed h = record {
  given = h.given ++ take n buffer;
  gave = gave_more first left left_now h.given buffer n h.gave read;
  puts = puts_more held now h.given (take n buffer) put waiting fed h.puts;
}

-- where nothing was lost
pub front_reads : (first left : Option (List ℕ)) (held : HeldBytes) (put : List Parcel) (waiting : Option Item) (over : Bool) → over ≡ false → ReadsFrontSo first left held put waiting over → ReadsItemsSo first left held put waiting
front_reads first left held put waiting over on h = record {
  given = h.seen;
  gave = subst (λ (l : List ℕ). GaveBytes first left l) (ap (λ (l : List ℕ). h.seen ++ l) (h.whole on) ∙ append-nil h.seen) h.gave;
  puts = h.puts;
}

pub reads_front : (first left : Option (List ℕ)) (held : HeldBytes) (put : List Parcel) (waiting : Option Item) (over : Bool) → ReadsItemsSo first left held put waiting → ReadsFrontSo first left held put waiting over
reads_front first left held put waiting over h = record {
  seen = h.given;
  lost = [];
  gave = subst (λ (l : List ℕ). GaveBytes first left l) (sym (append-nil h.given)) h.gave;
  whole = λ _. refl;
  puts = h.puts;
}

-- bytes more were framed, and the reader is not over
pub front_more : (first left left_now : Option (List ℕ)) (held now : HeldBytes) (put : List Parcel) (waiting : Option Item) (over over_now : Bool) (buffer : List ℕ) (n : ℕ) → over ≡ false → ReadsOk left left_now n buffer → ((stream : List ℕ) (given : List Shape) → Framed held stream given → Framed now (stream ++ take n buffer) given) → ReadsFrontSo first left held put waiting over → ReadsFrontSo first left_now now put waiting over_now
front_more first left left_now held now put waiting over over_now buffer n on read fed h =
    reads_front first left_now now put waiting over_now
    (reads_more first left left_now held now put waiting buffer n read fed (front_reads first left held put waiting over on h))

-- bytes more were lost
pub front_lost : (first left left_now : Option (List ℕ)) (held now : HeldBytes) (put : List Parcel) (waiting : Option Item) (over : Bool) (buffer : List ℕ) (n : ℕ) → ReadsOk left left_now n buffer → now ≡ held → ReadsFrontSo first left held put waiting over → ReadsFrontSo first left_now now put waiting true
front_lost first left left_now held now put waiting over buffer n read same h = record {
  seen = h.seen;
  lost = h.lost ++ take n buffer;
  gave = subst (λ (l : List ℕ). GaveBytes first left_now l) (append_assoc h.seen h.lost (take n buffer))
      (gave_more first left left_now (h.seen ++ h.lost) buffer n h.gave read);
  whole = λ e. absurd (true≢false e);
  puts = subst (λ (x : HeldBytes). PutsItems x h.seen put waiting) (sym same) h.puts;
}
