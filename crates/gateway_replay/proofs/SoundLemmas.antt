-- How a replay of a transcript without a fault ends.
use Rattle.std.proofs.Common.{◌≡◌, ℕ, List, Option, Some, ◌∙◌, ap}
use Rattle.std.proofs.lemmas.List.{take_all}
use Rattle.gate_outside.specs.Causes.{Rose}
use Rattle.rtsp_uri.specs.declared.base.Bases.{Bases}
use Rattle.gate_transcript.specs.Transcript.{reading}
use Rattle.run_status.specs.declared.status.Status.{Status}
use Rattle.run_status.specs.declared.status.Status.TheVariants.{Done, Usage, SourceFault, SinkFault, BadTranscript, TooLong, Memory, Upstream, ListenFault, RecordFault, CrewRefused, AcceptFault, DialFault, NumbersSpent}
use Rattle.gateway_replay.specs.Events.{events_of}
use Rattle.gateway_replay.specs.Replays.{limit, ends_by, ends_as, EndsReplay, IsAtEnd, ReplaySays, FaultRose}
use Rattle.gateway_replay.specs.Sound.{IsSoundTranscript, IsReplayedWhole, EndsSoundReplay}
use Rattle.gateway_replay.specs.CoreRecords.{Histories}
use Rattle.gateway_replay.proofs.SourceLemmas.{within}

-- no other answer goes with its bytes
ends_done : (all : List ℕ) → IsSoundTranscript all → ends_as all ≡ Done
ends_done all sound = within all sound.short ∙ ap ends_by sound.sound

-- all of it is within the limit
replayed : (made : Histories) (bases : Bases) (all : List ℕ) (left before now : Option (List ℕ)) → IsSoundTranscript all → EndsReplay made bases Done (Some all) before now → IsAtEnd left
    → IsReplayedWhole made bases all left before now
replayed made bases all left before now sound ended at_end = record {
  read = at_end;
  history = ended.history;
  is_history = ended.is_history;
  told = ended.ends.1 ∙ ap (λ (l : List ℕ). events_of (reading l).entries) (take_all limit all sound.short);
  grown = ended.grown;
}

pub sound_replay : (made : Histories) (bases : Bases) (status : Status) (all : List ℕ) (left before now : Option (List ℕ)) (source_before source_now sink_before sink_now : ℕ)
    → ReplaySays made bases status (Some all) left before now → FaultRose status source_before source_now sink_before sink_now → IsSoundTranscript all
    → (Rose source_before source_now → ⊥) → (Rose sink_before sink_now → ⊥) → EndsSoundReplay made bases status all left before now
sound_replay made bases Done all left before now a b c d says rose sound source sink = replayed made bases all left before now sound says.0 says.1
sound_replay made bases Memory all left before now a b c d says rose sound source sink = says
sound_replay made bases SourceFault all left before now a b c d says rose sound source sink = absurd (source rose)
sound_replay made bases SinkFault all left before now a b c d says rose sound source sink = absurd (sink rose)
sound_replay made bases (BadTranscript place fault) all left before now a b c d says rose sound source sink =
    let same : BadTranscript place fault ≡ Done = says.ends.0 ∙ ends_done all sound in cc
sound_replay made bases TooLong all left before now a b c d says rose sound source sink =
    let same : TooLong ≡ Done = says.ends.0 ∙ ends_done all sound in cc
sound_replay made bases (Usage place) all left before now a b c d says rose sound source sink = absurd says
sound_replay made bases (Upstream cause) all left before now a b c d says rose sound source sink = absurd says
sound_replay made bases ListenFault all left before now a b c d says rose sound source sink = absurd says
sound_replay made bases RecordFault all left before now a b c d says rose sound source sink = absurd says
sound_replay made bases CrewRefused all left before now a b c d says rose sound source sink = absurd says
sound_replay made bases AcceptFault all left before now a b c d says rose sound source sink = absurd says
sound_replay made bases DialFault all left before now a b c d says rose sound source sink = absurd says
sound_replay made bases NumbersSpent all left before now a b c d says rose sound source sink = absurd says
