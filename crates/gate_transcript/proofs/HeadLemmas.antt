-- The head that stands first stays the same when more bytes come.
use Rattle.std.proofs.Common.{◌≡◌, ℕ, suc, ◌+◌, ◌<◌, ◌≤◌, Bool, true, false, cond, List, [], ◌∷◌, ◌++◌, length, take, drop, Option, Some, None, Result, Ok, Err, refl, sym, ◌∙◌, ap, subst, inl, inr, arith, nat_lt, length-append, length-drop}
use Rattle.std.proofs.lemmas.Bool.{cases_Bool, ltb-false, le-ltb}
use Rattle.std.proofs.lemmas.List.{take-append-drop, take-append-le, drop-append-le, length-take-le}
use Rattle.std.proofs.Math.Seq.{drop-append_seam}
use Rattle.gate_transcript.specs.declared.entry.Entry.{Entry}
use Rattle.gate_transcript.specs.declared.fault.BadEntryKind.{BadEntryKind}
use Rattle.gate_transcript.specs.declared.fault.BadEntryKind.TheVariants.{Magic, Length, Cut}
use Rattle.gate_transcript.specs.declared.head.EntryHead.{EntryHead}
use Rattle.gate_transcript.specs.Transcript.{entry_head, sound_head, with_its_body, first_head, entry_with}
use Rattle.gate_transcript.specs.Bodies.{is_body}

-- a head is in the first eight bytes
pub head_more : (b : ℕ) (xs ys : List ℕ) → 8 ≤ length xs → entry_head b (xs ++ ys) ≡ entry_head b xs
head_more b xs ys long =
    let near : take 4 (xs ++ ys) ≡ take 4 xs = take-append-le 4 xs ys (omega arith) in
    let far : drop 4 (xs ++ ys) ≡ drop 4 xs ++ ys = drop-append-le 4 xs ys (omega arith) in
    let room : 4 ≤ length (drop 4 xs) = rw (length-drop 4 xs) (omega arith) in
    let next : take 4 (drop 4 xs ++ ys) ≡ take 4 (drop 4 xs) = take-append-le 4 (drop 4 xs) ys room in
    rw (near, far, next) refl

-- what it says that a head stands first
pub record IsFirst (has : ℕ → Bool) (b : ℕ) (bytes : List ℕ) (head : EntryHead) : Type 0 where
  pub long : 8 ≤ length bytes
  pub right : sound_head has (entry_head b bytes) ≡ Ok head
  pub room : head.size ≤ length (drop 8 bytes)
  pub body : is_body head.kind (take head.size (drop 8 bytes)) ≡ true

-- what stands where the bytes have room for a body: the head or its fault, by the body
abbrev by_body : Bool → EntryHead → Result (Option EntryHead) BadEntryKind
by_body fits head = cond fits (Ok (Some head)) (Err Length)

abbrev by_room : Bool → Bool → EntryHead → Result (Option EntryHead) BadEntryKind
by_room short fits head = cond short (Err Cut) (by_body fits head)

-- a head that stands there is the one that was read
pub record HasBody (bytes : List ℕ) (r : Result EntryHead BadEntryKind) (head : EntryHead) : Type 0 where
  pub read : r ≡ Ok head
  pub room : head.size ≤ length bytes
  pub body : is_body head.kind (take head.size bytes) ≡ true

one_of : (h head : EntryHead) → by_body true h ≡ Ok (Some head) → h ≡ head
one_of h head e = cc

body_here : (bytes : List ℕ) (h head : EntryHead) (short fits : Bool) → nat_lt (length bytes) h.size ≡ short → is_body h.kind (take h.size bytes) ≡ fits
    → by_room short fits h ≡ Ok (Some head) → HasBody bytes (Ok h) head
body_here bytes h head true fits room body e = absurd (cc)
body_here bytes h head false false room body e = absurd (cc)
body_here bytes h head false true room body e =
    subst (λ (x : EntryHead). HasBody bytes (Ok h) x) (one_of h head e) (record { read = refl; room = ltb-false (length bytes) h.size room; body = body })

body_parts : (bytes : List ℕ) (r : Result EntryHead BadEntryKind) (head : EntryHead) → with_its_body bytes r ≡ Ok (Some head) → HasBody bytes r head
body_parts bytes (Err bad) head e = absurd (cc)
body_parts bytes (Ok h) head e = body_here bytes h head (nat_lt (length bytes) h.size) (is_body h.kind (take h.size bytes)) refl refl e

pub first_parts : (has : ℕ → Bool) (b : ℕ) (bytes : List ℕ) (head : EntryHead) → first_head has (b ∷ bytes) ≡ Ok (Some head) → IsFirst has b bytes head
first_parts has b bytes head e =
    elim (cases_Bool (nat_lt (length bytes) 8)) [
      | inl short ↦ (let f = rw short at e in absurd (cc))
      | inr enough ↦ (let f = rw enough at e in
          let parts = body_parts (drop 8 bytes) (sound_head has (entry_head b bytes)) head f in
          record { long = ltb-false (length bytes) 8 enough; right = parts.read; room = parts.room; body = parts.body })
    ]

pub first_whole : (has : ℕ → Bool) (b : ℕ) (bytes : List ℕ) (head : EntryHead) → IsFirst has b bytes head → first_head has (b ∷ bytes) ≡ Ok (Some head)
first_whole has b bytes head whole =
    let long = le-ltb (length bytes) 8 whole.long in
    let room = le-ltb (length (drop 8 bytes)) head.size whole.room in
    rw (long, whole.right, room, whole.body) refl

-- the front of the bytes that a whole entry takes
pub front_len : (has : ℕ → Bool) (bytes : List ℕ) (head : EntryHead) → first_head has bytes ≡ Ok (Some head) → 9 + head.size ≤ length bytes
front_len has [] head e = absurd (cc)
front_len has (b ∷ bytes) head e =
    let parts = first_parts has b bytes head e in
    let long = parts.long in
    let room = parts.room in
    let left = length-drop 8 bytes in
    omega arith

first_front : (has : ℕ → Bool) (b : ℕ) (front rest more : List ℕ) (head : EntryHead) → length front ≡ 8 + head.size → IsFirst has b (front ++ rest) head → IsFirst has b (front ++ more) head
first_front has b front rest more head size first =
    let long : 8 ≤ length front = omega arith in
    let left : length (drop 8 front) ≡ head.size = length-drop 8 front ∙ omega arith in
    let body : (ys : List ℕ) → take head.size (drop 8 (front ++ ys)) ≡ take head.size (drop 8 front) = λ ys.
    ap (λ (l : List ℕ). take head.size l) (drop-append-le 8 front ys long) ∙ take-append-le head.size (drop 8 front) ys (omega arith) in
    record {
      long = rw (length-append front more) (omega arith);
      right = rw (head_more b front more long) (rw (head_more b front rest long) at first.right);
      room = rw (drop-append-le 8 front more long) (rw (length-append (drop 8 front) more) (omega arith));
      body = ap (λ (l : List ℕ). is_body head.kind l) (body more) ∙ sym (ap (λ (l : List ℕ). is_body head.kind l) (body rest)) ∙ first.body;
    }

-- a whole entry stays first, whatever follows it
pub first_more : (has : ℕ → Bool) (bytes more : List ℕ) (head : EntryHead) → first_head has bytes ≡ Ok (Some head) → first_head has (take (9 + head.size) bytes ++ more) ≡ Ok (Some head)
first_more has [] more head e = absurd (cc)
first_more has (b ∷ bytes) more head e =
    let first = first_parts has b bytes head e in
    let n : 9 + head.size ≡ suc (8 + head.size) = omega arith in
    let long = first.long in
    let room = first.room in
    let left = length-drop 8 bytes in
    let size : length (take (8 + head.size) bytes) ≡ 8 + head.size = length-take-le (8 + head.size) bytes (omega arith) in
    let all : IsFirst has b (take (8 + head.size) bytes ++ drop (8 + head.size) bytes) head = rw (take-append-drop (8 + head.size) bytes) first in
    rw n (first_whole has b (take (8 + head.size) bytes ++ more) head (first_front has b (take (8 + head.size) bytes) (drop (8 + head.size) bytes) more head size all))

-- and it is the same entry
pub entry_more : (bytes more : List ℕ) (head : EntryHead) → 9 + head.size ≤ length bytes → entry_with head (take (9 + head.size) bytes ++ more) ≡ entry_with head bytes
entry_more bytes more head enough =
    let front = take (9 + head.size) bytes in
    let size : length front ≡ 9 + head.size = length-take-le (9 + head.size) bytes enough in
    let left : (ys : List ℕ) → take head.size (drop 9 (front ++ ys)) ≡ take head.size (drop 9 front) = λ ys.
    (let room : head.size ≤ length (drop 9 front) = rw (length-drop 9 front) (omega arith) in
    ap (λ (l : List ℕ). take head.size l) (drop-append-le 9 front ys (omega arith)) ∙ take-append-le head.size (drop 9 front) ys room) in
    let body : take head.size (drop 9 (front ++ more)) ≡ take head.size (drop 9 bytes) =
    left more ∙ (sym (left (drop (9 + head.size) bytes)) ∙ ap (λ (l : List ℕ). take head.size (drop 9 l)) (take-append-drop (9 + head.size) bytes)) in
    ap (λ (l : List ℕ). let e : Entry = record { kind = head.kind; conn = head.conn; body = l } in e) body

-- what follows it is what follows
pub rest_more : (bytes more : List ℕ) (n : ℕ) → n ≤ length bytes → drop n (take n bytes ++ more) ≡ more
rest_more bytes more n enough =
    let size : length (take n bytes) ≡ n = length-take-le n bytes enough in
    subst (λ (k : ℕ). drop k (take n bytes ++ more) ≡ more) size (drop-append_seam (take n bytes) more)

-- a fault that is not Cut stays, and Magic is none of an entry
pub record IsFinal (bad : BadEntryKind) : Type 0 where
  pub whole : bad ≡ Cut → ⊥

body_bad : (bytes more : List ℕ) (h : EntryHead) (bad : BadEntryKind) (short fits : Bool) → IsFinal bad → nat_lt (length bytes) h.size ≡ short
    → is_body h.kind (take h.size bytes) ≡ fits → by_room short fits h ≡ Err bad → with_its_body (bytes ++ more) (Ok h) ≡ Err bad
body_bad bytes more h bad true fits final room body e = let same : bad ≡ Cut = cc in absurd (final.whole same)
body_bad bytes more h bad false true final room body e = absurd (cc)
body_bad bytes more h bad false false final room body e =
    let enough : h.size ≤ length bytes = ltb-false (length bytes) h.size room in
    let still : nat_lt (length (bytes ++ more)) h.size ≡ false = le-ltb (length (bytes ++ more)) h.size (rw (length-append bytes more) (omega arith)) in
    let wrong : is_body h.kind (take h.size (bytes ++ more)) ≡ false = ap (λ (l : List ℕ). is_body h.kind l) (take-append-le h.size bytes more enough) ∙ body in
    rw (still, wrong) e

room_bad : (bytes more : List ℕ) (r : Result EntryHead BadEntryKind) (bad : BadEntryKind) → IsFinal bad → with_its_body bytes r ≡ Err bad → with_its_body (bytes ++ more) r ≡ Err bad
room_bad bytes more (Err k) bad final e = e
room_bad bytes more (Ok h) bad final e = body_bad bytes more h bad (nat_lt (length bytes) h.size) (is_body h.kind (take h.size bytes)) final refl refl e

pub bad_more : (has : ℕ → Bool) (bytes more : List ℕ) (bad : BadEntryKind) → IsFinal bad → first_head has bytes ≡ Err bad → first_head has (bytes ++ more) ≡ Err bad
bad_more has [] more bad final e = absurd (cc)
bad_more has (b ∷ bytes) more bad final e =
    elim (cases_Bool (nat_lt (length bytes) 8)) [
      | inl short ↦ (let f = rw short at e in let same : bad ≡ Cut = cc in absurd (final.whole same))
      | inr enough ↦ (let f = rw enough at e in
          let long : 8 ≤ length bytes = ltb-false (length bytes) 8 enough in
          let still : nat_lt (length (bytes ++ more)) 8 ≡ false = le-ltb (length (bytes ++ more)) 8 (rw (length-append bytes more) (omega arith)) in
          rw (still, head_more b bytes more long, drop-append-le 8 bytes more long) (room_bad (drop 8 bytes) more (sound_head has (entry_head b bytes)) bad final f))
    ]

sound_not_magic : (has : ℕ → Bool) (o : Option EntryHead) → sound_head has o ≡ Err Magic → ⊥
sound_not_magic has None e = cc
sound_not_magic has (Some h) e = grind arith

body_not_magic : (short fits : Bool) (h : EntryHead) → by_room short fits h ≡ Err Magic → ⊥
body_not_magic true fits h e = cc
body_not_magic false true h e = cc
body_not_magic false false h e = cc

room_not_magic : (bytes : List ℕ) (r : Result EntryHead BadEntryKind) → (r ≡ Err Magic → ⊥) → with_its_body bytes r ≡ Err Magic → ⊥
room_not_magic bytes (Err k) never e = let same : k ≡ Magic = cc in never (ap (λ (x : BadEntryKind). let r : Result EntryHead BadEntryKind = Err x in r) same)
room_not_magic bytes (Ok h) never e = body_not_magic (nat_lt (length bytes) h.size) (is_body h.kind (take h.size bytes)) h e

pub first_not_magic : (has : ℕ → Bool) (bytes : List ℕ) → first_head has bytes ≡ Err Magic → ⊥
first_not_magic has [] e = cc
first_not_magic has (b ∷ bytes) e =
    elim (cases_Bool (nat_lt (length bytes) 8)) [
      | inl short ↦ (let f = rw short at e in cc)
      | inr enough ↦ (let f = rw enough at e in room_not_magic (drop 8 bytes) (sound_head has (entry_head b bytes)) (sound_not_magic has (entry_head b bytes)) f)
    ]

body_not_none : (short fits : Bool) (h : EntryHead) → by_room short fits h ≡ Ok None → ⊥
body_not_none true fits h e = cc
body_not_none false true h e = cc
body_not_none false false h e = cc

room_not_none : (bytes : List ℕ) (r : Result EntryHead BadEntryKind) → with_its_body bytes r ≡ Ok None → ⊥
room_not_none bytes (Err k) e = cc
room_not_none bytes (Ok h) e = body_not_none (nat_lt (length bytes) h.size) (is_body h.kind (take h.size bytes)) h e

-- where a byte is, something stands first
pub first_not_none : (has : ℕ → Bool) (bytes : List ℕ) → 0 < length bytes → first_head has bytes ≡ Ok None → ⊥
first_not_none has [] some e = omega arith
first_not_none has (b ∷ bytes) some e =
    elim (cases_Bool (nat_lt (length bytes) 8)) [
      | inl short ↦ (let f = rw short at e in cc)
      | inr enough ↦ (let f = rw enough at e in room_not_none (drop 8 bytes) (sound_head has (entry_head b bytes)) f)
    ]
