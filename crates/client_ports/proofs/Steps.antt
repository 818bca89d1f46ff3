-- Each step on a port keeps its rule.
use Rattle.std.proofs.Common.{◌≡◌, ◌≢◌, ℕ, zero, suc, true, false, true≢false, List, [], ◌∷◌, ◌++◌, length, set, sym, refl, ap, ◌∙◌, subst, ⊎_elim, append_assoc}
use Rattle.std.proofs.lemmas.List.{append-nil}
use mathlib.Core.Option.{some, some-injective, some-ne-none}
use lib.ListN.{get_elem?}
use Rattle.crossbeam_queue.specs.Fifo.{Pushes, Pops, Forks, Merges, Learns}
use Rattle.crossbeam_queue.proofs.Lists.{at_set, at_snoc}
use Rattle.client_ports.specs.declared.parcel.Parcel.{Parcel}
use Rattle.client_ports.specs.declared.rule.Knowledge.{Knowledge}
use Rattle.client_ports.specs.Rule.{knows, BeginsIn, EndsPast, KnowsRightly, StandsInLine}
use Rattle.client_ports.proofs.Views.{EachPass, each_set, at_end}

-- what was the first of a list is the first of a longer one
begins_longer : (front all more : List Parcel) → BeginsIn front all → BeginsIn front (all ++ more)
begins_longer front all more b = (b.0 ++ more, sym (append_assoc front b.0 more) ∙ ap (λ (l : List Parcel). l ++ more) b.1)

-- a pass that neither puts nor takes knows rightly what it was told
silent : (putter taker : ℕ) (put taken : List Parcel) (pass : ℕ) (told heard : List Parcel) → BeginsIn told put → BeginsIn heard taken → KnowsRightly putter taker put taken pass (knows false false [] [] told heard)
silent putter taker put taken pass told heard b c = record { puts = λ p. absurd (true≢false (sym p)); takes = λ p. absurd (true≢false (sym p)); told = b; heard = c }

first_right : (pass : ℕ) (known : Knowledge) → get_elem? (knows true true [] [] [] [] ∷ []) pass ≡ some known → KnowsRightly 0 0 [] [] pass known
first_right zero known e = subst (λ (u : Knowledge). KnowsRightly 0 0 [] [] 0 u) (some-injective (knows true true [] [] [] []) known e) (record { puts = λ _. (refl, refl); takes = λ _. (refl, refl); told = ([], refl); heard = ([], refl) })
first_right (suc pass) known e = absurd (some-ne-none known (sym e))

-- a new port
pub begins : StandsInLine [] (knows true true [] [] [] [] ∷ [])
begins = record { putter = 0; taker = 0; put = []; taken = []; order = refl; right = first_right }

-- a put that lands
pub puts_keep : (n pass : ℕ) (v : Knowledge) (x : Parcel) → v.puts ≡ true → Pushes StandsInLine n pass v x (λ w. w ≡ knows v.puts v.takes (v.put ++ x ∷ []) v.taken v.told v.heard)
puts_keep n pass v x may items views room h at =
    let w : Knowledge = knows v.puts v.takes (v.put ++ x ∷ []) v.taken v.told v.heard in
    let mine = h.right pass v at in
    let put : List Parcel = h.put ++ x ∷ [] in (
      w,
      record {
        putter = h.putter;
        taker = h.taker;
        put = put;
        taken = h.taken;
        order = ap (λ (l : List Parcel). l ++ x ∷ []) h.order ∙ append_assoc h.taken items (x ∷ []);
        right = each_set (KnowsRightly h.putter h.taker put h.taken) views pass w
            (record {
              puts = λ _. ((mine.puts may).0, ap (λ (l : List Parcel). l ++ x ∷ []) (mine.puts may).1);
              takes = mine.takes;
              told = begins_longer v.told h.put (x ∷ []) mine.told;
              heard = mine.heard;
            })
            (λ j u other e.
            let old = h.right j u e in
            record {
              puts = λ p. absurd (other ((old.puts p).0 ∙ sym (mine.puts may).0));
              takes = old.takes;
              told = begins_longer u.told h.put (x ∷ []) old.told;
              heard = old.heard;
            });
      },
      refl,
    )

-- a put that is refused: what the queue holds is the last of what was put, and none that the pass was told was taken
pub puts_learn : (pass : ℕ) (v : Knowledge) → v.puts ≡ true → Learns StandsInLine pass v (λ items. EndsPast v.heard v.put items)
puts_learn pass v may items views h at =
    let mine = h.right pass v at in
    (h.taken, sym h.order ∙ sym (mine.puts may).1, mine.heard)

-- a take that gives a parcel
pub takes_keep : (pass : ℕ) (v : Knowledge) → v.takes ≡ true → Pops StandsInLine pass v (λ x w. w ≡ knows v.puts v.takes v.put (v.taken ++ x ∷ []) v.told v.heard)
takes_keep pass v may x items views h at =
    let w : Knowledge = knows v.puts v.takes v.put (v.taken ++ x ∷ []) v.told v.heard in
    let mine = h.right pass v at in
    let taken : List Parcel = h.taken ++ x ∷ [] in (
      w,
      record {
        putter = h.putter;
        taker = h.taker;
        put = h.put;
        taken = taken;
        order = h.order ∙ sym (append_assoc h.taken (x ∷ []) items);
        right = each_set (KnowsRightly h.putter h.taker h.put taken) views pass w
            (record {
              puts = mine.puts;
              takes = λ _. ((mine.takes may).0, ap (λ (l : List Parcel). l ++ x ∷ []) (mine.takes may).1);
              told = mine.told;
              heard = begins_longer v.heard h.taken (x ∷ []) mine.heard;
            })
            (λ j u other e.
            let old = h.right j u e in
            record {
              puts = old.puts;
              takes = λ p. absurd (other ((old.takes p).0 ∙ sym (mine.takes may).0));
              told = old.told;
              heard = begins_longer u.heard h.taken (x ∷ []) old.heard;
            });
      },
      refl,
    )

-- a take that finds nothing: what the pass was told of is the first of what it took and what the queue holds
pub takes_learn : (pass : ℕ) (v : Knowledge) → v.takes ≡ true → Learns StandsInLine pass v (λ items. BeginsIn v.told (v.taken ++ items))
takes_learn pass v may items views h at =
    let mine = h.right pass v at in
    (mine.told.0, mine.told.1 ∙ (h.order ∙ ap (λ (l : List Parcel). l ++ items) (sym (mine.takes may).1)))

-- the two passes are made
pub parts : (pass : ℕ) (v : Knowledge) → v.puts ≡ true → v.takes ≡ true → Forks StandsInLine pass v (knows true false v.put [] [] []) (knows false true [] v.taken [] [])
parts pass v a b items views h at =
    let l : Knowledge = knows true false v.put [] [] [] in
    let r : Knowledge = knows false true [] v.taken [] [] in
    let mine = h.right pass v at in
    let vs : List Knowledge = set views pass l in
    let Old : ℕ → Knowledge → Type 0 = λ j u. (u.puts ≡ true → (j ≡ h.putter) × (u.put ≡ h.put)) × (u.takes ≢ true) × BeginsIn u.told h.put × BeginsIn u.heard h.taken in
    let old : EachPass Old vs =
    each_set Old views pass l ((λ _. mine.puts a), (λ p. true≢false (sym p)), (h.put, refl), (h.taken, refl))
    (λ j u other e. let was = h.right j u e in (was.puts, (λ p. other ((was.takes p).0 ∙ sym (mine.takes b).0)), was.told, was.heard)) in
    record {
      putter = h.putter;
      taker = length vs;
      put = h.put;
      taken = h.taken;
      order = h.order;
      right = λ j u e.
          ⊎_elim (λ x. let was = old j u x in record { puts = was.0; takes = λ p. absurd (was.1 p); told = was.2; heard = was.3 })
          (λ (is : r ≡ u). record {
            puts = λ p. absurd (true≢false (sym (ap (λ (y : Knowledge). y.puts) is ∙ p)));
            takes = λ p. (at_end vs r u j (λ x. (old j u x).1 p) e, ap (λ (y : Knowledge). y.taken) (sym is) ∙ (mine.takes b).1);
            told = subst (λ (y : Knowledge). BeginsIn y.told h.put) is (h.put, refl);
            heard = subst (λ (y : Knowledge). BeginsIn y.heard h.taken) is (h.taken, refl);
          })
          (at_snoc vs r u j e);
    }

-- the two passes are brought together
pub meets : (pass : ℕ) (v : Knowledge) (other : ℕ) (u : Knowledge) → v.puts ≡ true → u.takes ≡ true → Merges StandsInLine pass v other u (knows true true v.put u.taken [] []) (knows false false [] [] [] [])
meets pass v other u a b items views h at two at' =
    let both : Knowledge = knows true true v.put u.taken [] [] in
    let mine = h.right pass v at in
    let vs : List Knowledge = set views pass both in
    let was : get_elem? views other ≡ some u = ⊎_elim (λ x. absurd (two x.0)) (λ x. x.1) (at_set views pass other both u at') in
    let theirs = (h.right other u was).takes b in
    let Now : ℕ → Knowledge → Type 0 = λ j y. j ≢ other → KnowsRightly h.putter pass h.put h.taken j y in
    let now : EachPass Now vs =
    each_set Now views pass both (λ _. record { puts = λ _. mine.puts a; takes = λ _. (refl, theirs.1); told = (h.put, refl); heard = (h.taken, refl) })
    (λ j y _ e apart. let old = h.right j y e in record { puts = old.puts; takes = λ p. absurd (apart ((old.takes p).0 ∙ sym theirs.0)); told = old.told; heard = old.heard }) in
    record {
      putter = h.putter;
      taker = pass;
      put = h.put;
      taken = h.taken;
      order = h.order;
      right = each_set (KnowsRightly h.putter pass h.put h.taken) vs other (knows false false [] [] [] []) (silent h.putter pass h.put h.taken other [] [] (h.put, refl) (h.taken, refl)) (λ j y apart e. now j y e apart);
    }

-- where one pass puts and takes, what it put is what it took and what the queue holds
pub totals : (pass : ℕ) (v : Knowledge) → v.puts ≡ true → v.takes ≡ true → Learns StandsInLine pass v (λ items. v.put ≡ v.taken ++ items)
totals pass v a b items views h at =
    let mine = h.right pass v at in
    (mine.puts a).1 ∙ (h.order ∙ ap (λ (l : List Parcel). l ++ items) (sym (mine.takes b).1))

-- a new pass that neither puts nor takes is told something
pub tells : (pass : ℕ) (v : Knowledge) (told heard : List Parcel) → ((put taken : List Parcel) (putter taker : ℕ) → KnowsRightly putter taker put taken pass v → BeginsIn told put × BeginsIn heard taken)
    → Forks StandsInLine pass v v (knows false false [] [] told heard)
tells pass v told heard so items views h at =
    let r : Knowledge = knows false false [] [] told heard in
    let mine = h.right pass v at in
    let right = so h.put h.taken h.putter h.taker mine in
    let vs : List Knowledge = set views pass v in
    let old : EachPass (KnowsRightly h.putter h.taker h.put h.taken) vs = each_set (KnowsRightly h.putter h.taker h.put h.taken) views pass v mine (λ j u other e. h.right j u e) in
    record {
      putter = h.putter;
      taker = h.taker;
      put = h.put;
      taken = h.taken;
      order = h.order;
      right = λ j u e.
          ⊎_elim (λ x. old j u x)
          (λ (is : r ≡ u). subst (KnowsRightly h.putter h.taker h.put h.taken j) is (silent h.putter h.taker h.put h.taken j told heard right.0 right.1))
          (at_snoc vs r u j e);
    }

-- a new pass is told what was put
pub tells_put : (pass : ℕ) (v : Knowledge) → v.puts ≡ true → Forks StandsInLine pass v v (knows false false [] [] v.put [])
tells_put pass v a = tells pass v v.put [] (λ put taken putter taker mine. (([], append-nil v.put ∙ (mine.puts a).1), (taken, refl)))

-- a new pass is told what was taken
pub tells_taken : (pass : ℕ) (v : Knowledge) → v.takes ≡ true → Forks StandsInLine pass v v (knows false false [] [] [] v.taken)
tells_taken pass v a = tells pass v [] v.taken (λ put taken putter taker mine. ((put, refl), ([], append-nil v.taken ∙ (mine.takes a).1)))

-- a pass takes in what another was told
pub hears : (pass : ℕ) (v : Knowledge) (other : ℕ) (u : Knowledge) (told heard : List Parcel)
    → ((put taken : List Parcel) (putter taker : ℕ) → KnowsRightly putter taker put taken pass v → KnowsRightly putter taker put taken other u → BeginsIn told put × BeginsIn heard taken)
    → Merges StandsInLine pass v other u (knows v.puts v.takes v.put v.taken told heard) (knows false false [] [] [] [])
hears pass v other u told heard so items views h at two at' =
    let both : Knowledge = knows v.puts v.takes v.put v.taken told heard in
    let mine = h.right pass v at in
    let vs : List Knowledge = set views pass both in
    let was : get_elem? views other ≡ some u = ⊎_elim (λ x. absurd (two x.0)) (λ x. x.1) (at_set views pass other both u at') in
    let right = so h.put h.taken h.putter h.taker mine (h.right other u was) in
    let now : EachPass (KnowsRightly h.putter h.taker h.put h.taken) vs =
    each_set (KnowsRightly h.putter h.taker h.put h.taken) views pass both (record { puts = mine.puts; takes = mine.takes; told = right.0; heard = right.1 }) (λ j y _ e. h.right j y e) in
    record {
      putter = h.putter;
      taker = h.taker;
      put = h.put;
      taken = h.taken;
      order = h.order;
      right = each_set (KnowsRightly h.putter h.taker h.put h.taken) vs other (knows false false [] [] [] []) (silent h.putter h.taker h.put h.taken other [] [] (h.put, refl) (h.taken, refl)) (λ j y _ e. now j y e);
    }

-- a pass takes in what another was told of those that were put
pub hears_put : (pass : ℕ) (v : Knowledge) (other : ℕ) (u : Knowledge) → Merges StandsInLine pass v other u (knows v.puts v.takes v.put v.taken u.told v.heard) (knows false false [] [] [] [])
hears_put pass v other u = hears pass v other u u.told v.heard (λ put taken putter taker mine theirs. (theirs.told, mine.heard))

-- a pass takes in what another was told of those that were taken
pub hears_taken : (pass : ℕ) (v : Knowledge) (other : ℕ) (u : Knowledge) → Merges StandsInLine pass v other u (knows v.puts v.takes v.put v.taken v.told u.heard) (knows false false [] [] [] [])
hears_taken pass v other u = hears pass v other u v.told u.heard (λ put taken putter taker mine theirs. (mine.told, theirs.heard))
