use Rattle.gateway_run.proofs.crew.fn.work_beside.there+FnOnce.call_once.Goals as goal

pub there-requires : goal.there-requires
there-requires g c =
    let a = c.requires.1.1.1.1.1.1.1.0 in
    let b = c.requires.1.1.1.1.1.1.1.1 in (
      record { owned = b.0.owned; leaving = λ k x w. b.0.leaving k x w },
      (
        record { owned = b.1.owned; leaving = λ k x w. b.1.leaving k x w },
        (
          record { owned = b.2.owned; leaving = λ k x w. b.2.leaving k x w },
          (
            record { owned = b.3.owned; leaving = λ k x w. b.3.leaving k x w },
            (
              record { owned = b.4.owned; leaving = λ k x w. b.4.leaving k x w },
              (
                record { owned = b.5.owned; leaving = λ k x w. b.5.leaving k x w },
                (record { shared = b.6.shared }, (record { shared = a.0.shared }, record { owned = a.1.owned; leaving = λ k x w. a.1.leaving k x w }, record { owned = a.2.owned; leaving = λ k x w. a.2.leaving k x w }, record { owned = a.3.owned; leaving = λ k x w. a.3.leaving k x w }, record { owned = a.4.owned; leaving = λ k x w. a.4.leaving k x w }, record { owned = a.5.owned; leaving = λ k x w. a.5.leaving k x w }, record { owned = a.6.owned; leaving = λ k x w. a.6.leaving k x w })),
              ),
            ),
          ),
        ),
      ),
    )
