-- Channels that were read differ.
use Rattle.std.proofs.Common.{◌≡◌, ℕ, ◌+◌, Bool, true, false, not, ◌==◌, ◌&&◌, cond, List, [], ◌∷◌, Option, None, Some, Result, refl, sym, subst, arith}
use Rattle.std.specs.Prelude.{IfSome, IfOk, codes}
use Rattle.std.specs.List.{list_any}
use Rattle.std.specs.Option.{option_map, option_or, option_and_then, ok_or}
use Rattle.std.proofs.lemmas.Bool.{eqb-false}
use Rattle.gate_bytes.specs.Ascii.{comma, hyphen}
use Rattle.gate_bytes.specs.Places.{cut_at}
use Rattle.rtsp_transport.specs.declared.channels.Pair.{Pair}
use Rattle.rtsp_transport.specs.declared.alternative.Wanted.{Wanted}
use Rattle.rtsp_transport.specs.declared.alternative.Wanted.TheVariants.{Exact}
use Rattle.rtsp_transport.specs.declared.fault.TransportFault.{TransportFault}
use Rattle.rtsp_transport.specs.declared.fault.TransportFault.TheVariants as faults
use Rattle.rtsp_transport.specs.Splits.{unquoted_parts}
use Rattle.rtsp_transport.specs.Parameters.{parameters_of, value_of, is_multicast}
use Rattle.rtsp_transport.specs.Channels.{AreApart, channel_of, pair_with, pair_or_first}
use Rattle.rtsp_transport.specs.Wants.{NamesApart, is_tcp, mode_fits, wanted_channels, wanted_in, first_fit}

pair_by : (a b : ℕ) (same : Bool) → (a == b) ≡ same → IfSome (cond same None (Some (record { rtp = a; rtcp = b }))) AreApart
pair_by a b true e = tt
pair_by a b false e = eqb-false a b e

two_by : (first second : Option ℕ) → IfSome (option_and_then (λ rtp. option_and_then (λ rtcp. cond (rtp == rtcp) None (Some (record { rtp = rtp; rtcp = rtcp }))) second) first) AreApart
two_by None second = tt
two_by (Some a) None = tt
two_by (Some a) (Some b) = pair_by a b (a == b) refl

next_by : (a : ℕ) (last : Bool) → IfSome (cond last None (Some (record { rtp = a; rtcp = a + 1 }))) AreApart
next_by a true = tt
next_by a false = λ e. omega (arith, e)

first_by : (first : Option ℕ) → IfSome (option_and_then (λ rtp. cond (rtp == 255) None (Some (record { rtp = rtp; rtcp = rtp + 1 }))) first) AreApart
first_by None = tt
first_by (Some a) = next_by a (a == 255)

asked_by : (value : List ℕ) (cut : Option (List ℕ × List ℕ)) → IfSome (pair_with value cut) AreApart
asked_by value None = first_by (channel_of value)
asked_by value (Some parts) = two_by (channel_of parts.0) (channel_of parts.1)

exact_by : (pair : Option Pair) → IfSome pair AreApart → IfSome (option_map Exact pair) NamesApart
exact_by None h = tt
exact_by (Some pair) h = h

channels_apart : (value : Option (Option (List ℕ))) → IfSome (wanted_channels value) NamesApart
channels_apart None = tt
channels_apart (Some None) = tt
channels_apart (Some (Some value)) = exact_by (pair_or_first value) (asked_by value (cut_at hyphen value))

wanted_by : (fits : Bool) (wanted : Option Wanted) → IfSome wanted NamesApart → IfSome (cond fits wanted None) NamesApart
wanted_by true wanted h = h
wanted_by false wanted h = tt

alternative_apart : (parts : List (List ℕ)) → IfSome (wanted_in parts) NamesApart
alternative_apart [] = tt
alternative_apart (protocol ∷ parameters) =
    let value : Option (Option (List ℕ)) = value_of (codes "interleaved") parameters in
    wanted_by ((is_tcp protocol && not (list_any is_multicast parameters)) && mode_fits (value_of (codes "mode") parameters)) (wanted_channels value) (channels_apart value)

or_by : (first later : Option Wanted) → IfSome first NamesApart → IfSome later NamesApart → IfSome (option_or first later) NamesApart
or_by None later h more = more
or_by (Some wanted) later h more = h

fit_apart : (alternatives : List (List ℕ)) → IfSome (first_fit alternatives) NamesApart
fit_apart [] = tt
fit_apart (alternative ∷ more) = or_by (wanted_in (parameters_of alternative)) (first_fit more) (alternative_apart (parameters_of alternative)) (fit_apart more)

-- the channels that a player names differ
pub picked_apart : (value : List ℕ) → IfSome (first_fit (unquoted_parts comma value)) NamesApart
picked_apart value = fit_apart (unquoted_parts comma value)

wanted_or : (wanted : Option Wanted) → IfSome wanted NamesApart → IfOk (ok_or wanted faults.NoneFits) NamesApart
wanted_or None h = tt
wanted_or (Some wanted) h = h

-- What was picked names channels that differ.
pub pick_apart : (value : List ℕ) (fit : Option Wanted) (answer : Result Wanted TransportFault) → fit ≡ first_fit (unquoted_parts comma value) → answer ≡ ok_or fit faults.NoneFits →
    IfOk answer NamesApart
pick_apart value fit answer h told =
    subst (λ (w : Result Wanted TransportFault). IfOk w NamesApart) (sym told)
    (wanted_or fit (subst (λ (w : Option Wanted). IfSome w NamesApart) (sym h) (picked_apart value)))
