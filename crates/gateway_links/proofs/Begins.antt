-- What was put is the first of the items of what the inlet has to give.
use Rattle.std.proofs.Common.{◌≡◌, ℕ, Bool, List, [], ◌++◌, Option, Some, None, sym, ap, ◌∙◌, append_assoc}
use Rattle.std.proofs.lemmas.List.{append-nil}
use Rattle.rtsp_head.specs.Items.{Shape, items_of}
use Rattle.rtsp_head.specs.declared.item.Item.{Item}
use Rattle.rtsp_frame.specs.FramerState.{HeldBytes}
use Rattle.client_ports.specs.declared.parcel.Parcel.{Parcel}
use Rattle.gateway_links.specs.PutParcels.{waiting_shape}
use Rattle.rtsp_frame.proofs.CutLemmas.{items_append}
use Rattle.gateway_links.specs.ReadItems.{GaveBytes, PutsItems, ReadsItemsSo, ReadsFrontSo}
use Rattle.gateway_links.specs.Promise.{BeginsItemsOf, BeginsGiven}

-- what the inlet has to give is what it gave and what is left
rest_of : (all given : List ℕ) (left : Option (List ℕ)) → GaveBytes (Some all) left given → (rest : List ℕ) × (all ≡ given ++ rest)
rest_of all given None h = cc h
rest_of all given (Some rest) h = (rest, cc h)

-- the items of some of the bytes, and what is behind them
begins : (all seen behind : List ℕ) (items waiting held later : List Shape) → all ≡ seen ++ behind → (items ++ waiting) ++ held ≡ items_of seen → items_of (seen ++ behind) ≡ items_of seen ++ later → items ++ (waiting ++ (held ++ later)) ≡ items_of all
begins all seen behind items waiting held later split framed longer =
    sym (append_assoc items waiting (held ++ later))
    ∙ (sym (append_assoc (items ++ waiting) held later)
    ∙ (ap (λ (l : List Shape). l ++ later) framed
    ∙ (sym longer
    ∙ ap items_of (sym split))))

-- the items of bytes that were seen, and then others
pub puts_begin : (all seen behind : List ℕ) (held : HeldBytes) (put : List Parcel) (waiting : Option Item) → all ≡ seen ++ behind → PutsItems held seen put waiting → BeginsItemsOf put all
puts_begin all seen behind held put waiting split h =
    let longer = items_append seen behind in
    record {
      items = h.items;
      later = waiting_shape waiting ++ (held.waiting ++ longer.0);
      whole = begins all seen behind h.items (waiting_shape waiting) held.waiting longer.0 split h.framed.items longer.1;
      put_is = h.put_is;
    }

pub reads_begin : (all : List ℕ) (left : Option (List ℕ)) (held : HeldBytes) (put : List Parcel) (waiting : Option Item) → ReadsItemsSo (Some all) left held put waiting → BeginsItemsOf put all
reads_begin all left held put waiting h =
    let rest = rest_of all h.given left h.gave in
    puts_begin all h.given rest.0 held put waiting rest.1 h.puts

pub front_begins : (all : List ℕ) (left : Option (List ℕ)) (held : HeldBytes) (put : List Parcel) (waiting : Option Item) (over : Bool) → ReadsFrontSo (Some all) left held put waiting over → BeginsItemsOf put all
front_begins all left held put waiting over h =
    let rest = rest_of all (h.seen ++ h.lost) left h.gave in
    puts_begin all h.seen (h.lost ++ rest.0) held put waiting (rest.1 ∙ append_assoc h.seen h.lost rest.0) h.puts

pub given_begin : (first left : Option (List ℕ)) (held : HeldBytes) (put : List Parcel) (waiting : Option Item) → ReadsItemsSo first left held put waiting → BeginsGiven first left put
given_begin first left held put waiting h = (h.given, h.gave, puts_begin h.given h.given [] held put waiting (sym (append-nil h.given)) h.puts)
