-- What was read from the server's link.
use Rattle.std.proofs.Common.{◌≡◌, ℕ, Bool, List, [], ◌++◌, Option, refl, sym, subst}
use Rattle.std.proofs.lemmas.List.{append-nil}
use Rattle.rtsp_head.specs.declared.item.Item.{Item}
use Rattle.rtsp_frame.specs.FramerState.{HeldBytes}
use Rattle.client_ports.specs.declared.parcel.Parcel.{Parcel}
use Rattle.gateway_links.specs.ReadItems.{GaveBytes, ReadsItemsSo, ReadsFrontSo, PutAllSo}
use Rattle.gateway_links.specs.Promise.{BeginsGiven}
use Rattle.gateway_links.proofs.Begins.{puts_begin}

-- what was put is the first of the items of what was given, also where memory was wanting for the last of it
pub begins_given : (first left : Option (List ℕ)) (held : HeldBytes) (put : List Parcel) (waiting : Option Item) (over : Bool) → ReadsFrontSo first left held put waiting over → BeginsGiven first left put
begins_given first left held put waiting over reads = (reads.seen ++ reads.lost, reads.gave, puts_begin (reads.seen ++ reads.lost) reads.seen reads.lost held put waiting refl reads.puts)

-- the same of what is left now and of what was put now
pub moved_all : (first left left_now : Option (List ℕ)) (put put_now : List Parcel) → left_now ≡ left → put_now ≡ put → PutAllSo first left put → PutAllSo first left_now put_now
moved_all first left left_now put put_now same_left same_put all =
    subst (λ (l : Option (List ℕ)). PutAllSo first l put_now) (sym same_left) (subst (λ (p : List Parcel). PutAllSo first left p) (sym same_put) all)

pub moved_begins : (first left left_now : Option (List ℕ)) (put put_now : List Parcel) → left_now ≡ left → put_now ≡ put → BeginsGiven first left put → BeginsGiven first left_now put_now
moved_begins first left left_now put put_now same_left same_put begins =
    subst (λ (l : Option (List ℕ)). BeginsGiven first l put_now) (sym same_left) (subst (λ (p : List Parcel). BeginsGiven first left p) (sym same_put) begins)

pub moved_front : (first left left_now : Option (List ℕ)) (held held_now : HeldBytes) (put put_now : List Parcel) (waiting waiting_now : Option Item) (over over_now : Bool) → left_now ≡ left → held_now ≡ held
    → put_now ≡ put → waiting_now ≡ waiting → over_now ≡ over → ReadsFrontSo first left held put waiting over → ReadsFrontSo first left_now held_now put_now waiting_now over_now
moved_front first left left_now held held_now put put_now waiting waiting_now over over_now a b c d e reads =
    subst (λ (l : Option (List ℕ)). ReadsFrontSo first l held_now put_now waiting_now over_now) (sym a)
    (subst (λ (h : HeldBytes). ReadsFrontSo first left h put_now waiting_now over_now) (sym b)
    (subst (λ (p : List Parcel). ReadsFrontSo first left held p waiting_now over_now) (sym c)
    (subst (λ (w : Option Item). ReadsFrontSo first left held put w over_now) (sym d)
    (subst (λ (o : Bool). ReadsFrontSo first left held put waiting o) (sym e) reads))))

-- where all was framed, nothing is lost
pub front_of : (first left : Option (List ℕ)) (held : HeldBytes) (put : List Parcel) (waiting : Option Item) (over : Bool) → ReadsItemsSo first left held put waiting → ReadsFrontSo first left held put waiting over
front_of first left held put waiting over reads = record {
  seen = reads.given;
  lost = [];
  gave = subst (λ (l : List ℕ). GaveBytes first left l) (sym (append-nil reads.given)) reads.gave;
  whole = λ on. refl;
  puts = reads.puts;
}
