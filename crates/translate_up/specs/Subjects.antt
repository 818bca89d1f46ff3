-- The session that a request is for, without where it lies in memory.
use Rattle.std.specs.Prelude.{◌≡◌, ℕ, List, Option, Some, None, is_some}
use Rattle.std.specs.Option.{option_copied}
use Rattle.translate_up.specs.declared.subject.Subject.{Subject}
use Rattle.translate_up.specs.Ids.{id_of, are_same}
use Rattle.translate_up.specs.Views.{given_of, has_empty, all_tracks, Judged}

-- what the request is judged by
abbrev pub judged_seen : Subject → Judged
judged_seen subject = record {
  place = subject.place;
  state = subject.state;
  session = option_copied subject.session;
  tracks = subject.tracks.now;
  queued = subject.queued;
  control = option_copied subject.control;
  has_room = has_empty (given_of subject.view.now).sessions;
  all = all_tracks (given_of subject.view.now).sessions;
  full = subject.view.now.full;
  front = subject.view.now.bases.now.front.text;
  up = subject.view.now.bases.now.up.text;
}

-- The session is that which a Session field names, where there is a field; it is none where the field names none.
abbrev pub IsNamedSession : Option (List ℕ) → Option (List ℕ) → Type 0
IsNamedSession session None = Unit {0}
IsNamedSession session (Some value) = are_same session (id_of value) ≡ is_some session
