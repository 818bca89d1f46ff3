use Rattle.std.proofs.Common.{◌<◌, ◌^◌, Some, arith}
use Rattle.rtsp_uri.proofs.PlainLemmas.{plain_accepted, name_accepted}
use Rattle.rtsp_uri.proofs.laws.plain_words_are_accepted.Goals as goal

pub returns-clause-name : goal.returns-clause-name
returns-clause-name c = name_accepted

pub returns-clause-port : goal.returns-clause-port
returns-clause-port c = λ name port h last short.
    let small : port < 2 ^ 16 = omega (arith, last) in
    plain_accepted name (Some port) h small short
