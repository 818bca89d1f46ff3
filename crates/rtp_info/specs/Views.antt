-- What the private types of this crate say, without where it lies in memory.
use Rattle.rtp_info.specs.declared.parameter.Noted.{Noted}
use Rattle.rtp_info.specs.declared.parameter.Parameter.{Parameter}
use Rattle.rtp_info.specs.declared.parameter.Parameter.TheVariants as parameters
use Rattle.rtp_info.specs.Parameters.{Says, Seq, Time, Other, Notes}

-- a parameter, without where it lies in memory
abbrev pub parameter_seen : Parameter → Says
parameter_seen (parameters.Seq n) = Seq n
parameter_seen (parameters.Time n) = Time n
parameter_seen parameters.Other = Other

-- what was noted, without where it lies in memory
abbrev pub noted_seen : Noted → Notes
noted_seen noted = record { seq = noted.seq; rtptime = noted.rtptime }
