-- What a turn of a writer takes and writes, from its parts.
use Rattle.std.proofs.Common.{◌≡◌, ℕ, Bool, true, false, List, [], ◌∷◌, ◌++◌, length, take, Option, Some, None, Result, Ok, Err, refl, sym, ap, ◌∙◌, subst, append_assoc}
use Rattle.std.proofs.lemmas.List.{append-nil, take_at}
use Rattle.std.proofs.lemmas.List.Concat.{flat_map-append}
use Rattle.client_ports.specs.declared.parcel.Parcel.{Parcel}
use Rattle.gate_outside.specs.Contents.{GrowsByFront}
use Rattle.gateway_links.specs.declared.turn.WriterTurn.{WriterTurn}
use Rattle.gateway_links.specs.declared.turn.WriterTurn.TheVariants.{Wrote, Stuck, Idle, Failed}
use Rattle.gateway_links.specs.WrittenParcels.{parcel_bytes, parcels_bytes, due_bytes, with_held, HasTaken, HasWritten}
use Rattle.gateway_links.specs.Turns.{Carries, Moves, Gathers, GathersFrom, Forwards, Breaks, DoesTurn, is_failure, turn_of}
use Rattle.gateway_links.proofs.MoveLemmas.{carries_twice, carries_fails, moves_then, none_offered, grows_none}

-- the outlet failed at the first parcel
pub first_fails : {T E : Type 0} (parcel : Parcel) (before now : Option (List ℕ)) (taken taken_now : List Parcel) (held left : List ℕ) (e : E) → taken_now ≡ taken → GrowsByFront before now (held ++ parcel_bytes parcel) → GathersFrom {T = T} {E = E} parcel before now taken taken_now held left (Err e)
first_fails parcel before now taken taken_now held left e same h = record {
  more = [];
  taken_more = same ∙ sym (append-nil taken);
  moves = subst (λ (l : List ℕ). GrowsByFront before now (held ++ l)) (sym (append-nil (parcel_bytes parcel))) h;
}

-- the outlet failed while more were gathered
pub more_fails : {T E U F : Type 0} (parcel : Parcel) (before between now : Option (List ℕ)) (taken taken_now : List Parcel) (held mid left last : List ℕ) (e : E) (f : F) → Carries before between held mid (parcel_bytes parcel) → Gathers {T = T} {E = E} between now taken taken_now mid left (Err e) → GathersFrom {T = U} {E = F} parcel before now taken taken_now held last (Err f)
more_fails parcel before between now taken taken_now held mid left last e f first more = record {
  more = more.more;
  taken_more = more.taken_more;
  moves = carries_fails before between now held mid (parcel_bytes parcel) (parcels_bytes more.more) first more.moves;
}

with_none : {T E : Type 0} (before now : Option (List ℕ)) (held left bytes : List ℕ) (result : Result T E) → Moves before now held left (bytes ++ []) result → Moves before now held left bytes result
with_none before now held left bytes result moves = subst (λ (l : List ℕ). Moves before now held left l result) (append-nil bytes) moves

-- what is held then was offered
pub last_offered : {T E U F : Type 0} (parcel : Parcel) (before between then now : Option (List ℕ)) (taken taken_now : List Parcel) (held mid left last : List ℕ) (u : U) (result : Result T E) → Carries before between held mid (parcel_bytes parcel) → Gathers {T = U} {E = F} between then taken taken_now mid left (Ok u) → Moves then now left last [] result → GathersFrom parcel before now taken taken_now held last result
last_offered parcel before between then now taken taken_now held mid left last u result first more moved = record {
  more = more.more;
  taken_more = more.taken_more;
  moves =
      let bytes = parcel_bytes parcel ++ parcels_bytes more.more in
      with_none before now held last bytes result
      (moves_then before then now held left last bytes [] result
      (carries_twice before between then held mid left (parcel_bytes parcel) (parcels_bytes more.more) first more.moves) moved);
}

-- nothing was taken, and what is held was offered
pub offers_held : {T E : Type 0} (before now : Option (List ℕ)) (taken taken_now : List Parcel) (held left : List ℕ) (result : Result T E) → taken_now ≡ taken → Moves before now held left [] result → Gathers before now taken taken_now held left result
offers_held before now taken taken_now held left result same moves = record {
  more = [];
  taken_more = same ∙ sym (append-nil taken);
  moves = moves;
}

taken_all : (taken one now more : List Parcel) (parcel : Parcel) → one ≡ taken ++ parcel ∷ [] → now ≡ one ++ more → now ≡ taken ++ (parcel ∷ more)
taken_all taken one now more parcel first then =
    then ∙ (ap (λ (l : List Parcel). l ++ more) first ∙ append_assoc taken (parcel ∷ []) more)

-- a parcel was taken, and it and those behind it came to what is held
pub takes_first : {T E : Type 0} (parcel : Parcel) (before now : Option (List ℕ)) (taken one taken_now : List Parcel) (held left : List ℕ) (result : Result T E) → one ≡ taken ++ parcel ∷ [] → GathersFrom parcel before now one taken_now held left result → Gathers before now taken taken_now held left result
takes_first parcel before now taken one taken_now held left result first h = record {
  more = parcel ∷ h.more;
  taken_more = taken_all taken one taken_now h.more parcel first h.taken_more;
  moves = h.moves;
}

-- what a turn did, by the outcome of its offer
pub did_turn : {E : Type 0} (before now : Option (List ℕ)) (taken taken_now : List Parcel) (held left : List ℕ) (wrote : Result Bool E) → Gathers before now taken taken_now held left wrote → DoesTurn (turn_of wrote) before now taken taken_now held left
did_turn before now taken taken_now held left (Ok true) h = record { more = h.more; taken_more = h.taken_more; carries = h.moves }
did_turn before now taken taken_now held left (Ok false) h = record { more = h.more; taken_more = h.taken_more; carries = h.moves }
did_turn before now taken taken_now held left (Err e) h = record { more = h.more; taken_more = h.taken_more; front = h.moves }

-- nothing was taken and nothing written
pub does_nothing : (now : Option (List ℕ)) (taken taken_now : List Parcel) (held : List ℕ) → taken_now ≡ taken → Forwards now now taken taken_now held held
does_nothing now taken taken_now held same = record { more = []; taken_more = same ∙ sym (append-nil taken); carries = none_offered now held }

-- nothing is done where the outlet has failed before
pub turn_over : (now : Option (List ℕ)) (taken : List Parcel) (held : List ℕ) → Breaks now now taken taken held
turn_over now taken held = record {
  more = [];
  taken_more = sym (append-nil taken);
  front = record { front = []; rest = held ++ []; whole = refl; grown = grows_none now };
}

-- the bytes of parcels and of further ones
bytes_joined : (taken more taken_now : List Parcel) → taken_now ≡ taken ++ more → parcels_bytes taken ++ parcels_bytes more ≡ parcels_bytes taken_now
bytes_joined taken more taken_now h = sym (flat_map-append parcel_bytes taken more) ∙ ap parcels_bytes (sym h)

-- what is told is what is due
told : (now : Option (List ℕ)) (written : List ℕ) (taken : List Parcel) (failed : Bool) (held : List ℕ) → now ≡ Some written → with_held failed held written ≡ due_bytes failed taken (length written) → HasTaken now taken failed held
told now written taken failed held is h =
    subst (λ (o : Option (List ℕ)). HasTaken o taken failed held) (sym is)
    (ap (λ (l : List ℕ). let some : Option (List ℕ) = Some l in some) h)

untold : (now : Option (List ℕ)) (taken : List Parcel) (failed : Bool) (held : List ℕ) → now ≡ None → HasTaken now taken failed held
untold now taken failed held is = subst (λ (o : Option (List ℕ)). HasTaken o taken failed held) (sym is) refl

some_is : (xs ys : List ℕ) → (let left : Option (List ℕ) = Some xs in left) ≡ Some ys → xs ≡ ys
some_is xs ys h = cc h

-- what was written and held, some of which was written, and what came
seam : (bytes put left held all more : List ℕ) → put ++ left ≡ held ++ more → bytes ++ held ≡ all → (bytes ++ put) ++ left ≡ all ++ more
seam bytes put left held all more whole was =
    append_assoc bytes put left
    ∙ (ap (λ (l : List ℕ). bytes ++ l) whole
    ∙ (sym (append_assoc bytes held more)
    ∙ ap (λ (l : List ℕ). l ++ more) was))

forwards_told : (before now : Option (List ℕ)) (taken taken_now : List Parcel) (held left : List ℕ) → HasTaken before taken false held → Forwards before now taken taken_now held left → HasTaken now taken_now false left
forwards_told None now taken taken_now held left h w = untold now taken_now false left w.carries.grown
forwards_told (Some bytes) now taken taken_now held left h w =
    told now (bytes ++ w.carries.put) taken_now false left w.carries.grown
    (seam bytes w.carries.put left held (parcels_bytes taken) (parcels_bytes w.more) w.carries.whole (some_is (bytes ++ held) (parcels_bytes taken) h)
    ∙ bytes_joined taken w.more taken_now w.taken_more)

breaks_told : (before now : Option (List ℕ)) (taken taken_now : List Parcel) (held left : List ℕ) → HasTaken before taken false held → Breaks before now taken taken_now held → HasTaken now taken_now true left
breaks_told None now taken taken_now held left h w = untold now taken_now true left w.front.grown
breaks_told (Some bytes) now taken taken_now held left h w =
    let written : List ℕ = bytes ++ w.front.front in
    let whole : written ++ w.front.rest ≡ parcels_bytes taken_now =
    seam bytes w.front.front w.front.rest held (parcels_bytes taken) (parcels_bytes w.more) w.front.whole (some_is (bytes ++ held) (parcels_bytes taken) h)
    ∙ bytes_joined taken w.more taken_now w.taken_more in
    told now written taken_now true left w.front.grown
    (sym (take_at written w.front.rest (length written) refl) ∙ ap (take (length written)) whole)

-- a turn of a writer whose outlet had not failed
turn_told : (turn : WriterTurn) (before now : Option (List ℕ)) (taken taken_now : List Parcel) (held left : List ℕ) → HasTaken before taken false held → DoesTurn turn before now taken taken_now held left → HasTaken now taken_now (is_failure turn) left
turn_told Wrote before now taken taken_now held left h w = forwards_told before now taken taken_now held left h w
turn_told Stuck before now taken taken_now held left h w = forwards_told before now taken taken_now held left h w
turn_told Idle before now taken taken_now held left h w = forwards_told before now taken taken_now held left h w.0
turn_told Failed before now taken taken_now held left h w = breaks_told before now taken taken_now held left h w

-- what a writer keeps of what was written, in a turn
pub turn_keeps : (was failed : Bool) (turn : WriterTurn) (before now : Option (List ℕ)) (taken taken_now : List Parcel) (held left : List ℕ) → HasTaken before taken was held → DoesTurn turn before now taken taken_now held left → failed ≡ is_failure turn → (was ≡ true → HasTaken now taken_now failed left) → HasTaken now taken_now failed left
turn_keeps true failed turn before now taken taken_now held left h w is over = over refl
turn_keeps false failed turn before now taken taken_now held left h w is over =
    subst (λ (b : Bool). HasTaken now taken_now b left) (sym is) (turn_told turn before now taken taken_now held left h w)

-- what a writer keeps, where nothing is held that is still to be written
pub all_written : (now : Option (List ℕ)) (taken : List Parcel) (failed : Bool) (held : List ℕ) → (failed ≡ false → held ≡ []) → HasTaken now taken failed held → HasWritten now taken failed
all_written None taken failed held none h = refl
all_written (Some bytes) taken true held none h = h
all_written (Some bytes) taken false held none h =
    ap (λ (l : List ℕ). let some : Option (List ℕ) = Some l in some)
    (sym (append-nil bytes) ∙ (ap (λ (l : List ℕ). bytes ++ l) (sym (none refl)) ∙ some_is (bytes ++ held) (parcels_bytes taken) h))

-- nothing was written, taken or held
pub begins_so : (now : Option (List ℕ)) (taken : List Parcel) (held : List ℕ) → HasWritten now taken false → held ≡ [] → HasTaken now taken false held
begins_so None taken held h none = refl
begins_so (Some bytes) taken held h none =
    ap (λ (l : List ℕ). let some : Option (List ℕ) = Some l in some)
    (ap (λ (l : List ℕ). bytes ++ l) none ∙ (append-nil bytes ∙ some_is bytes (parcels_bytes taken) h))
