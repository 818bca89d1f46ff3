-- What is written for a player is a value that stands in one line.
use Rattle.std.proofs.Common.{◌≡◌, inl, inr, ℕ, ◌+◌, ◌/◌, ◌%◌, ◌^◌, ◌<◌, ◌≤◌, Bool, true, false, cond, not, ◌==◌, ◌&&◌, ◌||◌, nat_le, List, [], ◌∷◌, ◌++◌, length, drop, Option, None, Some, IfSome, refl, sym, ◌∙◌, ap, append_assoc, arith}
use Rattle.std.specs.Prelude.{codes, decimal, option_map, is_some}
use Rattle.std.specs.List.{list_all}
use Rattle.std.specs.Char.{is_ascii_hexdigit}
use Rattle.std.proofs.lemmas.Bool.{and_parts}
use Rattle.std.proofs.lemmas.List.{drop_at, length-append}
use Rattle.rtsp_small.specs.Sessions.{is_session_byte, is_session_id, timeout_text, session_text}
use Rattle.rtsp_transport.specs.declared.channels.Pair.{Pair}
use Rattle.rtsp_transport.specs.Sources.{source_digits}
use Rattle.rtsp_transport.specs.GrantText.{pair_text, source_text, grant_text}
use Rattle.rtsp_transport.proofs.HexLemmas.{source_hex}
use Rattle.rtsp_range.specs.declared.npt.NptTime.{NptTime}
use Rattle.rtsp_range.specs.declared.npt.NptTime.TheVariants.{Now, At}
use Rattle.rtsp_range.specs.declared.smpte.Smpte.{Smpte}
use Rattle.rtsp_range.specs.declared.smpte.Rate.{Rate}
use Rattle.rtsp_range.specs.declared.smpte.Rate.TheVariants as rates
use Rattle.rtsp_range.specs.declared.clock.Moment.{Moment}
use Rattle.rtsp_range.specs.declared.range.Range.{Range}
use Rattle.rtsp_range.specs.declared.range.Range.TheVariants as ranges
use Rattle.rtsp_range.specs.Npt.{latest}
use Rattle.rtsp_range.specs.Writable.{if_there, is_npt_time, can_be_written}
use Rattle.rtsp_range.specs.RangeText.{padded, without_zeros, fraction_text, npt_text, frames_text, parts_text, smpte_main, smpte_text, clock_text, moment_text, text_if, rate_text, range_text}
use Rattle.rtsp_range.proofs.PadLemmas.{padded_digits}
use Rattle.rtsp_range.proofs.FractionLemmas.{nanos_digits}
use Rattle.rtsp_uri.specs.declared.grammar.UriPlaces.{UriPlaces}
use Rattle.rtsp_uri.specs.Uris.{scheme, is_name_byte, is_address_byte, is_rest, is_rest_byte, places_of}
use Rattle.rtsp_uri.specs.Grammar.{IsHost, IsPort, Spelled}
use Rattle.rtsp_uri.specs.BaseTexts.{ends_at, is_base_text}
use Rattle.rtsp_uri.specs.Swaps.{has_authority, with_rest, swapped}
use Rattle.rtsp_uri.proofs.GrammarLemmas.{same_length, port_digits}
use Rattle.rtsp_uri.proofs.CutLemmas.{cut_is_spelled}
use Rattle.rtsp_small.specs.declared.session.TheConstants.{LONGEST_SESSION_ID}
use Rattle.rtsp_small.specs.declared.session.TheConstants.{TIMEOUT_DIGITS}
use Rattle.translate_down.proofs.VisibleLemmas.{is_visible, visible_more, kind_visible, digits_visible, decimal_visible}

-- a session
timeout_visible : (timeout : Option ℕ) → IfSome timeout (λ seconds. seconds < 10 ^ TIMEOUT_DIGITS) → is_visible (timeout_text timeout) ≡ true
timeout_visible None h = refl
timeout_visible (Some seconds) h = visible_more (codes ";timeout=") (decimal seconds) refl (decimal_visible seconds (omega (arith, h)))

pub session_visible : (id : List ℕ) (timeout : Option ℕ) → is_session_id id ≡ true → IfSome timeout (λ seconds. seconds < 10 ^ TIMEOUT_DIGITS) →
    is_visible (session_text (record { id = id; timeout = timeout })) ≡ true
session_visible id timeout is short =
    let bytes = (and_parts (not (length id == 0) && nat_le (length id) LONGEST_SESSION_ID) (list_all is_session_byte id) is).1 in
    visible_more id (timeout_text timeout) (kind_visible is_session_byte id (λ b d. grind arith) bytes) (timeout_visible timeout short)

-- a transport
source_visible : (source : Option ℕ) → is_visible (source_text source) ≡ true
source_visible None = refl
source_visible (Some source) = visible_more (codes ";ssrc=") (source_digits source) refl (kind_visible is_ascii_hexdigit (source_digits source) (λ b d. grind arith) (source_hex source))

pub grant_visible : (pair : Pair) (source : Option ℕ) → pair.rtp < 256 → pair.rtcp < 256 → is_visible (grant_text (record { pair = pair; ssrc = source })) ≡ true
grant_visible pair source rtp rtcp =
    visible_more (codes "RTP/AVP/TCP;unicast;interleaved=") (pair_text pair ++ source_text source) refl
    (visible_more (pair_text pair) (source_text source)
    (visible_more (decimal pair.rtp) (45 ∷ decimal pair.rtcp) (decimal_visible pair.rtp (omega (arith, rtp))) (decimal_visible pair.rtcp (omega (arith, rtcp))))
    (source_visible source))

-- a range
padded_visible : (width number : ℕ) → is_visible (padded width number) ≡ true
padded_visible width number = digits_visible (padded width number) (padded_digits width number)

marked_visible : (none : Bool) (mark : ℕ) (text : List ℕ) → is_rest_byte mark ≡ true → is_visible text ≡ true → is_visible (cond none [] (mark ∷ text)) ≡ true
marked_visible true mark text seen h = refl
marked_visible false mark text seen h = ap (λ t. t && is_visible text) seen ∙ h

fraction_visible : (nanos : ℕ) → is_visible (fraction_text nanos) ≡ true
fraction_visible nanos = marked_visible (nanos == 0) 46 (without_zeros (padded 9 nanos)) refl (digits_visible (without_zeros (padded 9 nanos)) (nanos_digits nanos))

le_of : (m n : ℕ) → nat_le m n ≡ true → m ≤ n
le_of m n h = grind (arith, h)

npt_visible : (time : Option NptTime) → if_there is_npt_time time ≡ true → is_visible (text_if npt_text time) ≡ true
npt_visible None h = refl
npt_visible (Some Now) h = refl
npt_visible (Some (At n)) h =
    let high : n ≤ latest = le_of n latest h in
    visible_more (decimal (n / 10 ^ 9)) (fraction_text (n % 10 ^ 9)) (decimal_visible (n / 10 ^ 9) (omega (arith, high))) (fraction_visible (n % 10 ^ 9))

smpte_visible : (time : Smpte) → is_visible (smpte_text time) ≡ true
smpte_visible time =
    visible_more (smpte_main time) (parts_text time.parts)
    (visible_more (padded 2 time.hours) (58 ∷ (padded 2 time.minutes ++ (58 ∷ (padded 2 time.seconds ++ frames_text time.frames time.parts)))) (padded_visible 2 time.hours)
    (visible_more (padded 2 time.minutes) (58 ∷ (padded 2 time.seconds ++ frames_text time.frames time.parts)) (padded_visible 2 time.minutes)
    (visible_more (padded 2 time.seconds) (frames_text time.frames time.parts) (padded_visible 2 time.seconds)
    (marked_visible (time.frames == 0 && time.parts == 0) 58 (padded 2 time.frames) refl (padded_visible 2 time.frames)))))
    (marked_visible (time.parts == 0) 46 (padded 2 time.parts) refl (padded_visible 2 time.parts))

smpte_end : (time : Option Smpte) → is_visible (text_if smpte_text time) ≡ true
smpte_end None = refl
smpte_end (Some time) = smpte_visible time

moment_visible : (moment : Moment) → is_visible (moment_text moment) ≡ true
moment_visible moment =
    visible_more (padded 4 moment.year) (padded 2 moment.month ++ (padded 2 moment.day ++ (84 ∷ clock_text moment))) (padded_visible 4 moment.year)
    (visible_more (padded 2 moment.month) (padded 2 moment.day ++ (84 ∷ clock_text moment)) (padded_visible 2 moment.month)
    (visible_more (padded 2 moment.day) (84 ∷ clock_text moment) (padded_visible 2 moment.day)
    (visible_more (padded 2 moment.hour) (padded 2 moment.minute ++ (padded 2 moment.second ++ (fraction_text moment.nanos ++ (90 ∷ [])))) (padded_visible 2 moment.hour)
    (visible_more (padded 2 moment.minute) (padded 2 moment.second ++ (fraction_text moment.nanos ++ (90 ∷ []))) (padded_visible 2 moment.minute)
    (visible_more (padded 2 moment.second) (fraction_text moment.nanos ++ (90 ∷ [])) (padded_visible 2 moment.second)
    (visible_more (fraction_text moment.nanos) (90 ∷ []) (fraction_visible moment.nanos) refl))))))

moment_end : (moment : Option Moment) → is_visible (text_if moment_text moment) ≡ true
moment_end None = refl
moment_end (Some moment) = moment_visible moment

rate_visible : (rate : Rate) → is_visible (rate_text rate) ≡ true
rate_visible rates.Thirty = refl
rate_visible rates.ThirtyDrop = refl
rate_visible rates.TwentyFive = refl

pub range_visible : (range : Range) → can_be_written range ≡ true → is_visible (range_text range) ≡ true
range_visible (ranges.Npt from to) h =
    let times = (and_parts (is_some from || is_some to) (if_there is_npt_time from && if_there is_npt_time to) h).1 in
    let both = and_parts (if_there is_npt_time from) (if_there is_npt_time to) times in
    visible_more (text_if npt_text from) (45 ∷ text_if npt_text to) (npt_visible from both.0) (npt_visible to both.1)
range_visible (ranges.Smpte rate from to) h =
    visible_more (rate_text rate) (smpte_text from ++ (45 ∷ text_if smpte_text to)) (rate_visible rate)
    (visible_more (smpte_text from) (45 ∷ text_if smpte_text to) (smpte_visible from) (smpte_end to))
range_visible (ranges.Clock from to) h = visible_more (moment_text from) (45 ∷ text_if moment_text to) (moment_visible from) (moment_end to)

-- the rest of a URI
any_rest : (rest : List ℕ) → is_rest rest ≡ true → is_visible rest ≡ true
any_rest [] h = refl
any_rest (b ∷ rest) h = (and_parts (b == 47 || b == 63) (is_visible (b ∷ rest)) h).1

rest_visible : (uri : List ℕ) (places : UriPlaces) → Spelled uri places → is_visible (drop places.rest uri) ≡ true
rest_visible uri places s =
    let seven : length s.first ≡ 7 = same_length s.first scheme s.is_scheme in
    let front = s.first ++ (s.host ++ s.port) in
    let apart : uri ≡ front ++ s.rest =
    s.whole ∙ ap (λ t. s.first ++ t) (sym (append_assoc s.host s.port s.rest)) ∙ sym (append_assoc s.first (s.host ++ s.port) s.rest) in
    let long : length front ≡ places.rest = omega (arith, seven, s.rest_at, length-append s.first (s.host ++ s.port), length-append s.host s.port) in
    ap (λ t. is_visible (drop places.rest t)) apart ∙ ap is_visible (drop_at front s.rest places.rest long) ∙ any_rest s.rest s.is_rest

-- the text of a base
host_visible : (host : List ℕ) → IsHost host → is_visible host ≡ true
host_visible host (inl name) = kind_visible is_name_byte host (λ b d. grind arith) name.1
host_visible host (inr (inside, some, is)) =
    ap is_visible is ∙ visible_more inside (93 ∷ []) (kind_visible is_address_byte inside (λ b d. grind arith) some.1) refl

port_visible : (text : List ℕ) (port : Option ℕ) → IsPort text port → is_visible text ≡ true
port_visible text None h = ap is_visible h
port_visible text (Some port) (digits, is, h) = ap is_visible is ∙ digits_visible digits (port_digits digits port h)

spelled_visible : (text : List ℕ) (places : UriPlaces) → Spelled (scheme ++ text) places → is_visible text ≡ true
spelled_visible text places s =
    let seven : length s.first ≡ 7 = same_length s.first scheme s.is_scheme in
    let apart : text ≡ s.host ++ (s.port ++ s.rest) = ap (drop 7) s.whole ∙ drop_at s.first (s.host ++ (s.port ++ s.rest)) 7 seven in
    ap is_visible apart ∙ visible_more s.host (s.port ++ s.rest) (host_visible s.host s.is_host) (visible_more s.port s.rest (port_visible s.port places.port s.is_port) (any_rest s.rest s.is_rest))

base_with : (text : List ℕ) (places : Option UriPlaces) → places_of (scheme ++ text) ≡ places → ends_at (7 + length text) places ≡ true → is_visible text ≡ true
base_with text None is h = cc
base_with text (Some places) is h = spelled_visible text places (cut_is_spelled (scheme ++ text) places is)

pub base_visible : (text : List ℕ) → is_base_text text ≡ true → is_visible text ≡ true
base_visible text h = base_with text (places_of (scheme ++ text)) refl (and_parts (nat_le (length text) 248) (ends_at (7 + length text) (places_of (scheme ++ text))) h).1

-- What holds of visible texts and of a text holds of the text with the authority of another base.
swapped_with : (P : List ℕ → Type 0) (to uri : List ℕ) (test : Bool) (places : Option UriPlaces) → places_of uri ≡ places → ((text : List ℕ) → is_visible text ≡ true → P text) → is_visible to ≡ true → P uri →
    P (with_rest to uri (cond test (option_map (λ places. drop places.rest uri) places) None))
swapped_with P to uri false places is seen base h = h
swapped_with P to uri true None is seen base h = h
swapped_with P to uri true (Some places) is seen base h =
    seen (scheme ++ (to ++ drop places.rest uri))
    (visible_more scheme (to ++ drop places.rest uri) refl (visible_more to (drop places.rest uri) base (rest_visible uri places (cut_is_spelled uri places is))))

pub swapped_holds : (P : List ℕ → Type 0) (from to uri : List ℕ) → ((text : List ℕ) → is_visible text ≡ true → P text) → is_visible to ≡ true → P uri → P (swapped from to uri)
swapped_holds P from to uri seen base h = swapped_with P to uri (has_authority from uri) (places_of uri) refl seen base h
