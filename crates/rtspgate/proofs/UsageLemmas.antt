-- A refusal of words, as the top call answers it.
use Rattle.std.proofs.Common.{◌≡◌, ℕ, ◌+◌, Bool, true, false, cond, List, [], ◌∷◌, Option, Some, Result, Ok, Err, inl, inr, refl, sym, subst, ◌∙◌, ap, ap₂, None, arith}
use Rattle.std.specs.Prelude.{OnOk, OnErr}
use Rattle.gate_outside.specs.declared.Failed.{Failed}
use Rattle.run_status.specs.declared.status.Status.{Status}
use Rattle.run_status.specs.declared.status.Status.TheVariants.{Done, Usage, SourceFault, SinkFault, BadTranscript, TooLong, Memory, Upstream, ListenFault, RecordFault, CrewRefused, AcceptFault, DialFault, NumbersSpent}
use Rattle.command_line.specs.declared.words.Command.{Command}
use Rattle.command_line.specs.declared.words.Command.TheVariants.{Replay, Drill, Serve}
use Rattle.command_line.specs.declared.kinds.WordsFault.{WordsFault}
use Rattle.command_line.specs.declared.kinds.WordsFault.TheVariants as word
use Rattle.command_line.specs.declared.kinds.Kind.{Kind}
use Rattle.command_line.specs.Kinds.{is_of, first_fault}
use Rattle.command_line.specs.Words.{replay_word, drill_word, serve_word, replay_kinds, serve_kinds, word_fault, ReadsWords, MayLackMemory, NamesCommand, asks_to_serve}
use Rattle.rtspgate.specs.Usage.{fault_or_serve, plain_fault, TellsUsage, TellsUsageAfterFlush}
use Rattle.rtspgate.specs.Stops.{status_of_words}
use Rattle.rtspgate.specs.Commands.{PlainSays, CommandSays}

-- a fault of a later word has a later place
later_by : (test : Bool) (place : ℕ) (more : Option ℕ) → (more ≡ Some 0 → ⊥) → cond test more (Some (place + 1)) ≡ Some 0 → ⊥
later_by true place more later h = later h
later_by false place more later h = let first : place + 1 ≡ 0 = cc in omega (arith, first)

later_fault : (place : ℕ) (kinds : List Kind) (words : List (List ℕ)) → first_fault (place + 1) kinds words ≡ Some 0 → ⊥
later_fault place [] [] h = cc
later_fault place [] (word ∷ words) h = let first : place + 1 ≡ 0 = cc in omega (arith, first)
later_fault place (kind ∷ kinds) [] h = let first : place + 1 ≡ 0 = cc in omega (arith, first)
later_fault place (kind ∷ kinds) (word ∷ words) h = later_by (is_of kind word) place (first_fault (place + 1 + 1) kinds words) (later_fault (place + 1) kinds words) h

-- the words after this command, which takes an address first
begun_with : (words : List (List ℕ)) (command front : List ℕ) (more : List (List ℕ)) (known : List ℕ) → words ≡ command ∷ front ∷ more → command ≡ known → words ≡ known ∷ front ∷ more
begun_with words command front more known words_are command_is = words_are ∙ ap (λ (c : List ℕ). c ∷ front ∷ more) command_is

-- where memory can be wanting, the command is known
known_command : (words : List (List ℕ)) → MayLackMemory words → word_fault words ≡ Some 0 → ⊥
known_command words (inr accepted) h = cc
known_command words (inl named) h = elim named.between_two [
  | inl replay ↦
      later_fault 0 replay_kinds (named.front ∷ named.more) (sym (ap word_fault (begun_with words named.command named.front named.more replay_word named.words_are replay)) ∙ h)
  | inr serve ↦
      later_fault 0 serve_kinds (named.front ∷ named.more) (sym (ap word_fault (begun_with words named.command named.front named.more serve_word named.words_are serve)) ∙ h)
]

-- a place that was refused is told
told_place : (words : List (List ℕ)) (at : ℕ) → word_fault words ≡ Some at → plain_fault words ≡ Some at
told_place words at refused = ap (λ (fault : Option ℕ). fault_or_serve fault (asks_to_serve words)) refused

-- a refusal tells its place
refusal_tells : (found : WordsFault) (fault : Option ℕ) → ((at : ℕ) → found ≡ word.Place at → fault ≡ Some at) → TellsUsage (status_of_words found) fault
refusal_tells (word.Place at) fault told = record {
  only = λ place e. (let same : at ≡ place = cc in told at refl ∙ ap (λ n. Some n) same);
  always = λ place e. (let both : Some at ≡ Some place = sym (told at refl) ∙ e in let same : at ≡ place = cc in inl (ap (λ n. Usage n) same));
}
refusal_tells word.Memory fault told = record { only = λ place e. cc; always = λ place e. inr refl }

-- the place that was read
read_place : (found : WordsFault) (words : List (List ℕ)) → ReadsWords (Err found) words → (at : ℕ) → found ≡ word.Place at → word_fault words ≡ Some at
read_place (word.Place place) words says at e = let same : place ≡ at = cc in says ∙ ap (λ n. Some n) same
read_place word.Memory words says at e = cc

-- what a refusal tells of the words, where `serve` is refused too and where it is not
pub usage_says : (found : WordsFault) (words : List (List ℕ)) → ReadsWords (Err found) words → TellsUsage (status_of_words found) (plain_fault words)
usage_says found words says = refusal_tells found (plain_fault words) (λ at e. told_place words at (read_place found words says at e))

-- an unknown command is told in any case
pub unknown_told : (found : WordsFault) (words : List (List ℕ)) → ReadsWords (Err found) words → word_fault words ≡ Some 0 → status_of_words found ≡ Usage 0
unknown_told (word.Place at) words says e = let same : at ≡ 0 = cc in ap (λ n. Usage n) same
unknown_told word.Memory words says e = absurd (known_command words says e)

-- a status that is no refusal, where none is to be told
pub tells_none : (status : Status) (fault : Option ℕ) → fault ≡ None → ((place : ℕ) → status ≡ Usage place → ⊥) → TellsUsage status fault
tells_none status fault none other = record { only = λ place e. absurd (other place e); always = λ place e. (let both : None ≡ Some place = sym none ∙ e in cc) }

-- the word `serve` is refused
tells_serve : (status : Status) (fault : Option ℕ) → fault ≡ Some 0 → status ≡ Usage 0 → TellsUsage status fault
tells_serve status fault first refused = record {
  only = λ place e. (let same : 0 ≡ place = cc in first ∙ ap (λ n. Some n) same);
  always = λ place e. (let both : Some 0 ≡ Some place = sym first ∙ e in let same : 0 ≡ place = cc in inl (refused ∙ ap (λ n. Usage n) same));
}

-- what is told where no word is refused
plain_of : (words line : List (List ℕ)) → words ≡ line → word_fault words ≡ None → plain_fault words ≡ fault_or_serve None (asks_to_serve line)
plain_of words line words_are accepted = ap₂ fault_or_serve accepted (ap asks_to_serve words_are)

-- what is told of the command that the words name
pub named_usage : (words : List (List ℕ)) (command : Command) (status : Status) (all left before now : Option (List ℕ)) → NamesCommand command words → word_fault words ≡ None →
    CommandSays command status all left before now → TellsUsage status (plain_fault words)
named_usage words (Replay bases) status all left before now names accepted says =
    tells_none status (plain_fault words) (plain_of words (replay_word ∷ names.front ∷ names.up ∷ []) names.words_are accepted)
    (λ place e. subst (λ (s : Status). CommandSays (Replay bases) s all left before now) e says)
named_usage words (Drill clients number) status all left before now names accepted says =
    tells_none status (plain_fault words) (plain_of words (drill_word ∷ names.clients_word ∷ names.number_word ∷ []) names.words_are accepted)
    (λ place e. (subst (λ (s : Status). CommandSays (Drill clients number) s all left before now) e says).1)
named_usage words (Serve options) status all left before now names accepted says =
    tells_serve status (plain_fault words)
    (plain_of words (serve_word ∷ names.front ∷ names.up ∷ names.listen ∷ names.stations ∷ names.recorder ∷ []) names.words_are accepted) says.0

pub refusal_says : (words : List (List ℕ)) (found : WordsFault) (all written : Option (List ℕ)) → ReadsWords (Err found) words → PlainSays words (status_of_words found) all all written written
refusal_says words (word.Place at) all written says = record { source = refl; sink = refl }
refusal_says words word.Memory all written says = inl (record { may = says; untouched = record { source = refl; sink = refl } })

-- what the command that the words name says
pub plain_says : (words : List (List ℕ)) (command : Command) (status : Status) (all left before now : Option (List ℕ)) → NamesCommand command words → CommandSays command status all left before now →
    PlainSays words status all left before now
plain_says words command Done all left before now names says = record { command = command; names = names; says = says }
plain_says words (Replay bases) (Usage place) all left before now names says = absurd says
plain_says words (Drill clients number) (Usage place) all left before now names says = absurd says.1
plain_says words (Serve options) (Usage place) all left before now names says = says.1
plain_says words command SourceFault all left before now names says = record { command = command; names = names; says = says }
plain_says words command SinkFault all left before now names says = record { command = command; names = names; says = says }
plain_says words command (BadTranscript place fault) all left before now names says = record { command = command; names = names; says = says }
plain_says words command TooLong all left before now names says = record { command = command; names = names; says = says }
plain_says words command Memory all left before now names says = inr (record { command = command; names = names; says = says })
plain_says words (Replay bases) (Upstream cause) all left before now names says = absurd says
plain_says words (Drill clients number) (Upstream cause) all left before now names says = absurd says.1
plain_says words (Serve options) (Upstream cause) all left before now names says = let refused : (Upstream cause) ≡ Usage 0 = says.0 in cc
plain_says words (Replay bases) ListenFault all left before now names says = absurd says
plain_says words (Drill clients number) ListenFault all left before now names says = absurd says.1
plain_says words (Serve options) ListenFault all left before now names says = let refused : ListenFault ≡ Usage 0 = says.0 in cc
plain_says words (Replay bases) RecordFault all left before now names says = absurd says
plain_says words (Drill clients number) RecordFault all left before now names says = absurd says.1
plain_says words (Serve options) RecordFault all left before now names says = let refused : RecordFault ≡ Usage 0 = says.0 in cc
plain_says words (Replay bases) CrewRefused all left before now names says = absurd says
plain_says words (Drill clients number) CrewRefused all left before now names says = absurd says.1
plain_says words (Serve options) CrewRefused all left before now names says = let refused : CrewRefused ≡ Usage 0 = says.0 in cc
plain_says words (Replay bases) AcceptFault all left before now names says = absurd says
plain_says words (Drill clients number) AcceptFault all left before now names says = absurd says.1
plain_says words (Serve options) AcceptFault all left before now names says = let refused : AcceptFault ≡ Usage 0 = says.0 in cc
plain_says words (Replay bases) DialFault all left before now names says = absurd says
plain_says words (Drill clients number) DialFault all left before now names says = absurd says.1
plain_says words (Serve options) DialFault all left before now names says = let refused : DialFault ≡ Usage 0 = says.0 in cc
plain_says words (Replay bases) NumbersSpent all left before now names says = absurd says
plain_says words (Drill clients number) NumbersSpent all left before now names says = absurd says.1
plain_says words (Serve options) NumbersSpent all left before now names says = let refused : NumbersSpent ≡ Usage 0 = says.0 in cc

-- a refusal of words after a flush, and where memory is wanting for the sink's buffer
pub flushed_usage : (result answered : Status) (flushed : Result (Unit {0}) Failed) (fault : Option ℕ) → OnOk flushed (result ≡ answered) → OnErr flushed (result ≡ SinkFault)
    → TellsUsage answered fault → TellsUsageAfterFlush result fault
flushed_usage result answered (Ok u) fault ok err says = record {
  only = λ place e. says.only place (sym ok ∙ e);
  always = λ place e. elim (says.always place e) [ inl usage ↦ inl (ok ∙ usage) | inr memory ↦ inr (inl (ok ∙ memory)) ];
}
flushed_usage result answered (Err f) fault ok err says = record {
  only = λ place e. (let same : SinkFault ≡ Usage place = sym err ∙ e in cc);
  always = λ place e. inr (inr err);
}

pub memory_usage : (fault : Option ℕ) → TellsUsageAfterFlush Memory fault
memory_usage fault = record { only = λ place e. cc; always = λ place e. inr (inl refl) }
