use denote.Param.Send.{Quiet-if}
use Rattle.player_stations.proofs.threads.work_stations.Goals as goal

pub scoped-requires : goal.scoped-requires
scoped-requires g c =
    let b = c.type_bounds in
    record {
      at = λ a. (
        (
          record { shared = b.sync-W.shared },
          record { owned = b.send-D.owned; leaving = λ k. Quiet-if (k (mir.Syntax.of_param 0)) denote.Exit.unseen denote.Exit.unseen (λ x w. tt) (λ x w. tt) },
          record { owned = b.send-D-Inward.owned; leaving = λ k. Quiet-if (k (mir.Syntax.of_param 4)) denote.Exit.unseen denote.Exit.unseen (λ x w. tt) (λ x w. tt) },
          record { owned = b.send-D-Outward.owned; leaving = λ k. Quiet-if (k (mir.Syntax.of_param 5)) denote.Exit.unseen denote.Exit.unseen (λ x w. tt) (λ x w. tt) },
          record { owned = b.send-M.owned; leaving = λ k. Quiet-if (k (mir.Syntax.of_param 1)) denote.Exit.unseen denote.Exit.unseen (λ x w. tt) (λ x w. tt) },
          record { owned = b.send-M-Plan.owned; leaving = λ k. Quiet-if (k (mir.Syntax.of_param 6)) denote.Exit.unseen denote.Exit.unseen (λ x w. tt) (λ x w. tt) },
          record { owned = b.send-R.owned; leaving = λ k. Quiet-if (k (mir.Syntax.of_param 2)) denote.Exit.unseen denote.Exit.unseen (λ x w. tt) (λ x w. tt) },
        ),
        (
          record { owned = b.send-D.owned; leaving = λ k. Quiet-if (k (mir.Syntax.of_param 0)) denote.Exit.unseen denote.Exit.unseen (λ x w. tt) (λ x w. tt) },
          record { owned = b.send-M.owned; leaving = λ k. Quiet-if (k (mir.Syntax.of_param 1)) denote.Exit.unseen denote.Exit.unseen (λ x w. tt) (λ x w. tt) },
          record { owned = b.send-R.owned; leaving = λ k. Quiet-if (k (mir.Syntax.of_param 2)) denote.Exit.unseen denote.Exit.unseen (λ x w. tt) (λ x w. tt) },
          record { owned = b.send-D-Inward.owned; leaving = λ k. Quiet-if (k (mir.Syntax.of_param 4)) denote.Exit.unseen denote.Exit.unseen (λ x w. tt) (λ x w. tt) },
          record { owned = b.send-D-Outward.owned; leaving = λ k. Quiet-if (k (mir.Syntax.of_param 5)) denote.Exit.unseen denote.Exit.unseen (λ x w. tt) (λ x w. tt) },
          record { owned = b.send-M-Plan.owned; leaving = λ k. Quiet-if (k (mir.Syntax.of_param 6)) denote.Exit.unseen denote.Exit.unseen (λ x w. tt) (λ x w. tt) },
          record { shared = b.sync-W.shared },
        ),
      );
    }
