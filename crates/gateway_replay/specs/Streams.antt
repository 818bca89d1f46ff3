-- The framers of a transcript's speakers (this project's own).
use Rattle.std.specs.Prelude.{Option, Some, nat_eq}
use Rattle.std.specs.HashMap.{get}
use Rattle.rtsp_frame.specs.FramerState.{HeldBytes}
use Rattle.gateway_replay.specs.declared.streams.Streams.{Streams}
use Rattle.gateway_replay.specs.declared.streams.Speaker.{Speaker}
use Rattle.gateway_replay.specs.declared.streams.Speaker.TheVariants.{Client, Server}

-- the framer of a speaker; a client has one once bytes of it came
abbrev pub framer_at : Streams → Speaker → Option HeldBytes
framer_at streams (Client i) = get nat_eq streams.clients i
framer_at streams Server = Some streams.server
