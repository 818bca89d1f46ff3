-- Bytes that are gathered and written, one after another.
use Rattle.std.proofs.Common.{◌≡◌, ℕ, List, [], ◌∷◌, ◌++◌, take, drop, Option, Some, None, Result, Ok, Err, refl, sym, ap, ◌∙◌, subst, append_assoc}
use Rattle.std.proofs.lemmas.List.{append-nil, flat_map_more, take-append-drop}
use Rattle.client_ports.specs.declared.parcel.Parcel.{Parcel}
use Rattle.gate_outside.specs.Contents.{Grows, GrowsByFront, WritesAll}
use Rattle.gate_outside.proofs.Fronts.{grows_twice}
use Rattle.gateway_links.specs.WrittenParcels.{parcel_bytes, parcels_bytes}
use Rattle.gateway_links.specs.Turns.{Carries, Moves, Gathers, Forwards}

-- nothing was written
pub grows_none : (now : Option (List ℕ)) → Grows now now []
grows_none None = refl
grows_none (Some bytes) = ap (λ (l : List ℕ). let told : Option (List ℕ) = Some l in told) (sym (append-nil bytes))

-- what was put, and then a front of what came behind it
seam : (put mid held xs ys front rest : List ℕ) → put ++ mid ≡ held ++ xs → front ++ rest ≡ mid ++ ys → (put ++ front) ++ rest ≡ held ++ (xs ++ ys)
seam put mid held xs ys front rest first then =
    append_assoc put front rest
    ∙ (ap (λ (l : List ℕ). put ++ l) then
    ∙ (sym (append_assoc put mid ys)
    ∙ (ap (λ (l : List ℕ). l ++ ys) first
    ∙ append_assoc held xs ys)))

-- some bytes came, and then others
pub carries_twice : (before between now : Option (List ℕ)) (held mid left xs ys : List ℕ) → Carries before between held mid xs → Carries between now mid left ys → Carries before now held left (xs ++ ys)
carries_twice before between now held mid left xs ys first then = record {
  put = first.put ++ then.put;
  whole = seam first.put mid held xs ys then.put left first.whole then.whole;
  grown = grows_twice before between now first.put then.put first.grown then.grown;
}

-- some bytes came, and at others the outlet failed
pub carries_fails : (before between now : Option (List ℕ)) (held mid xs ys : List ℕ) → Carries before between held mid xs → GrowsByFront between now (mid ++ ys) → GrowsByFront before now (held ++ (xs ++ ys))
carries_fails before between now held mid xs ys first then = record {
  front = first.put ++ then.front;
  rest = then.rest;
  whole = seam first.put mid held xs ys then.front then.rest first.whole then.whole;
  grown = grows_twice before between now first.put then.front first.grown then.grown;
}

pub moves_then : {T E : Type 0} (before between now : Option (List ℕ)) (held mid left xs ys : List ℕ) (result : Result T E) → Carries before between held mid xs → Moves between now mid left ys result → Moves before now held left (xs ++ ys) result
moves_then before between now held mid left xs ys (Ok u) first then = carries_twice before between now held mid left xs ys first then
moves_then before between now held mid left xs ys (Err e) first then = carries_fails before between now held mid xs ys first then

all_moved : {T E : Type 0} (before now : Option (List ℕ)) (bytes : List ℕ) (result : Result T E) → WritesAll before now bytes result → Moves before now [] [] bytes result
all_moved before now bytes (Ok u) h = record { put = bytes; whole = append-nil bytes; grown = h }
all_moved before now bytes (Err e) h = h

-- bytes that were written where nothing was gathered
pub moves_all : {T E : Type 0} (before now : Option (List ℕ)) (mid left bytes : List ℕ) (result : Result T E) → mid ≡ [] → left ≡ [] → WritesAll before now bytes result → Moves before now mid left bytes result
moves_all before now mid left bytes result none nothing h =
    subst (λ (x : List ℕ × List ℕ). Moves before now x.0 x.1 bytes result) (λ i. (sym none i, sym nothing i)) (all_moved before now bytes result h)

pub gathering_begins : (now : Option (List ℕ)) (taken : List Parcel) (held : List ℕ) → Forwards now now taken taken held held
gathering_begins now taken held = record {
  more = [];
  taken_more = sym (append-nil taken);
  carries = record { put = []; whole = sym (append-nil held); grown = grows_none now };
}

-- the bytes of parcels, and of one more
one_more : (more : List Parcel) (parcel : Parcel) → parcels_bytes more ++ parcel_bytes parcel ≡ parcels_bytes (more ++ parcel ∷ [])
one_more more parcel = flat_map_more parcel_bytes [] more parcel

taken_one : (taken more between now : List Parcel) (parcel : Parcel) → between ≡ taken ++ more → now ≡ between ++ parcel ∷ [] → now ≡ taken ++ (more ++ parcel ∷ [])
taken_one taken more between now parcel first then =
    then ∙ (ap (λ (l : List Parcel). l ++ parcel ∷ []) first ∙ append_assoc taken more (parcel ∷ []))

pub gathering_more : (before between now : Option (List ℕ)) (taken some taken_now : List Parcel) (held mid left : List ℕ) (parcel : Parcel) → Forwards before between taken some held mid → taken_now ≡ some ++ parcel ∷ [] → Carries between now mid left (parcel_bytes parcel) → Forwards before now taken taken_now held left
gathering_more before between now taken some taken_now held mid left parcel h one carried = record {
  more = h.more ++ parcel ∷ [];
  taken_more = taken_one taken h.more some taken_now parcel h.taken_more one;
  carries = subst (λ (l : List ℕ). Carries before now held left l) (one_more h.more parcel)
      (carries_twice before between now held mid left (parcels_bytes h.more) (parcel_bytes parcel) h.carries carried);
}

-- the outlet failed at one more
pub gathering_fails : {T E : Type 0} (before between now : Option (List ℕ)) (taken some taken_now : List Parcel) (held mid left : List ℕ) (parcel : Parcel) (e : E) → Forwards before between taken some held mid → taken_now ≡ some ++ parcel ∷ [] → GrowsByFront between now (mid ++ parcel_bytes parcel) → Gathers {T = T} {E = E} before now taken taken_now held left (Err e)
gathering_fails before between now taken some taken_now held mid left parcel e h one front = record {
  more = h.more ++ parcel ∷ [];
  taken_more = taken_one taken h.more some taken_now parcel h.taken_more one;
  moves = subst (λ (l : List ℕ). GrowsByFront before now (held ++ l)) (one_more h.more parcel)
      (carries_fails before between now held mid (parcels_bytes h.more) (parcel_bytes parcel) h.carries front);
}

pub gathering_ends : {T E : Type 0} (before now : Option (List ℕ)) (taken taken_now : List Parcel) (held left : List ℕ) (u : T) → Forwards before now taken taken_now held left → Gathers {T = T} {E = E} before now taken taken_now held left (Ok u)
gathering_ends before now taken taken_now held left u h = record { more = h.more; taken_more = h.taken_more; moves = h.carries }

-- the outlet took the first of what is held
pub offered : (before now : Option (List ℕ)) (held left : List ℕ) (n : ℕ) → left ≡ drop n held → Grows before now (take n held) → Carries before now held left []
offered before now held left n rest grown = record {
  put = take n held;
  whole = ap (λ (l : List ℕ). take n held ++ l) rest ∙ (take-append-drop n held ∙ sym (append-nil held));
  grown = grown;
}

-- the outlet failed, and took nothing
pub offer_failed : (before now : Option (List ℕ)) (bytes : List ℕ) → now ≡ before → GrowsByFront before now bytes
offer_failed before now bytes same = record {
  front = [];
  rest = bytes;
  whole = refl;
  grown = subst (λ (l : Option (List ℕ)). Grows before l []) (sym same) (grows_none before);
}

-- nothing was held, and nothing was offered
pub none_offered : (now : Option (List ℕ)) (held : List ℕ) → Carries now now held held []
none_offered now held = record { put = []; whole = sym (append-nil held); grown = grows_none now }
