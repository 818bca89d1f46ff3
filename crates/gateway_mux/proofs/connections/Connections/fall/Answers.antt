use Rattle.gateway_mux.specs.Spare.{left}
use Rattle.client_slot.specs.Places.{tracks_of}
use Rattle.gateway_mux.proofs.PictureLemmas.{owner_kept}
use Rattle.session_one.specs.declared.parts.TheConstants.{MOST_SESSIONS}
use Rattle.std.proofs.Common.{◌≡◌, ◌∙◌, ◌/◌, ◌%◌, Bool, true, false, not, refl, sym, ap}
use Rattle.rtsp_head.specs.Shapes.{shape_of}
use Rattle.channel_map.specs.Pairs.{held_at}
use Rattle.client_machine.specs.Frames.{channel_in, channel_for}
use Rattle.gateway_mux.specs.Pictures.{picture}
use Rattle.gateway_mux.proofs.FactLemmas.{idle_fall_dead, idle_fall_none}
use Rattle.gateway_mux.proofs.connections.Connections.fall.Goals as goal

held_granted : (granted : Bool) → not granted ≡ false → granted ≡ true
held_granted true e = refl
held_granted false e = cc

pub returns-then-not-alive : goal.returns-then-not-alive
returns-then-not-alive c =
    idle_fall_dead c.args.self.now.bases (picture c.args.self.now.seats c.args.self.now.upstream) (shape_of c.args.item.now) c.in-Some.held.conn c.in-Some-slot.slot.now c.requires
    (owner_kept c.args.self.now.bases (picture c.args.self.now.seats c.args.self.now.upstream) (left 1 c.args.self.now.upstream.requests.spare c.args.self.now.seats) (left MOST_SESSIONS c.args.self.now.upstream.sessions.spare c.args.self.now.seats) (channel_in (shape_of c.args.item.now) / 2) c.in-Some.held c.args.self.now.kept
    (ap (λ channel. held_at (channel / 2) c.args.self.now.upstream.channels) (sym c.channel_of-channel.ensures.channel) ∙ sym c.owner.ensures ∙ c.in-Some.is)
    (held_granted c.in-Some.held.granted c.if-not-held.false)) (sym c.in-Some-slot.ensures) (sym c.alive.ensures ∙ c.if-not-alive.true)

pub returns-in-None : goal.returns-in-None
returns-in-None c =
    idle_fall_none c.args.self.now.bases (picture c.args.self.now.seats c.args.self.now.upstream) (shape_of c.args.item.now) c.in-Some.held.conn c.in-Some-slot.slot.now c.requires
    (owner_kept c.args.self.now.bases (picture c.args.self.now.seats c.args.self.now.upstream) (left 1 c.args.self.now.upstream.requests.spare c.args.self.now.seats) (left MOST_SESSIONS c.args.self.now.upstream.sessions.spare c.args.self.now.seats) (channel_in (shape_of c.args.item.now) / 2) c.in-Some.held c.args.self.now.kept
    (ap (λ channel. held_at (channel / 2) c.args.self.now.upstream.channels) (sym c.channel_of-channel.ensures.channel) ∙ sym c.owner.ensures ∙ c.in-Some.is)
    (held_granted c.in-Some.held.granted c.if-not-held.false)) (sym c.in-Some-slot.ensures) (sym c.alive.ensures ∙ c.if-not-alive.false)
    (ap (λ channel. channel_for (channel / 2) (channel % 2) (tracks_of c.in-Some-slot.slot.now.sessions)) (sym c.channel_of-channel.ensures.channel) ∙ sym c.channel_for.ensures ∙ c.in-None.is)

pub returns-in-Some-channel_for : goal.returns-in-Some-channel_for
returns-in-Some-channel_for c = record {
  shape = shape_of c.args.item.now;
  client = c.in-Some-slot.slot.now;
  comes = refl;
  is_frame = c.requires;
  is_short = c.channel_of-channel.ensures.short;
  owner = owner_kept c.args.self.now.bases (picture c.args.self.now.seats c.args.self.now.upstream) (left 1 c.args.self.now.upstream.requests.spare c.args.self.now.seats) (left MOST_SESSIONS c.args.self.now.upstream.sessions.spare c.args.self.now.seats) (channel_in (shape_of c.args.item.now) / 2) c.in-Some.held c.args.self.now.kept
      (ap (λ channel. held_at (channel / 2) c.args.self.now.upstream.channels) (sym c.channel_of-channel.ensures.channel) ∙ sym c.owner.ensures ∙ c.in-Some.is)
      (held_granted c.in-Some.held.granted c.if-not-held.false);
  here = sym c.in-Some-slot.ensures;
  alive = sym c.alive.ensures ∙ c.if-not-alive.false;
  found = ap (λ channel. channel_for (channel / 2) (channel % 2) (tracks_of c.in-Some-slot.slot.now.sessions)) (sym c.channel_of-channel.ensures.channel) ∙ sym c.channel_for.ensures ∙ c.in-Some-channel_for.is;
}
