use Rattle.std.proofs.Common.{rules, ◌≡◌, ℕ, ◌+◌, ◌≤◌, ◌∙◌, length, take}
use Rattle.std.proofs.lemmas.List.{length-take-le}
use Rattle.gate_transcript.proofs.UnreadLemmas.{read_joined, read_front}
use Rattle.gate_transcript.proofs.unread.UnreadBytes.read.Goals as goal

pub returns-in-Ok-clause-bytes : goal.returns-in-Ok-clause-bytes
returns-in-Ok-clause-bytes g c =
    let held : ℕ = c.len-held.result in
    let count : ℕ = c.in-Ok.count in
    let front : take held c.as_mut_slice.result.now ≡ c.args.self.now = search rules in
    let size : held ≡ length c.args.self.now = search rules in
    let within : held + count ≤ length c.advance_mut.new.self.items = search rules in
    record {
      piece = take count c.read.new.into;
      size = length-take-le count c.read.new.into c.in-Ok.ensures.bound;
      joined = c.truncate.ensures.items ∙ read_joined held count _ c.args.self.now c.as_mut_slice.result.now c.read.new.into _ _ front size c.in-Ok.ensures.bound within;
      taken = read_front _ _ count c.read.new.into c.in-Ok.ensures.bytes;
    }
