use denote.Param.Send.{Quiet-if}
use Rattle.server_link.proofs.threads.work_server.Goals as goal

pub scoped-requires : goal.scoped-requires
scoped-requires g c =
    let b = c.type_bounds in
    record {
      at = λ a. (
        (
          record { shared = b.sync-W.shared },
          record { owned = b.send-I.owned; leaving = λ k. Quiet-if (k (mir.Syntax.of_param 0)) denote.Exit.unseen denote.Exit.unseen (λ x w. tt) (λ x w. tt) },
          record { owned = b.send-P.owned; leaving = λ k. Quiet-if (k (mir.Syntax.of_param 1)) denote.Exit.unseen denote.Exit.unseen (λ x w. tt) (λ x w. tt) },
          record { owned = b.send-Q.owned; leaving = λ k. Quiet-if (k (mir.Syntax.of_param 2)) denote.Exit.unseen denote.Exit.unseen (λ x w. tt) (λ x w. tt) },
          record { owned = b.send-M.owned; leaving = λ k. Quiet-if (k (mir.Syntax.of_param 3)) denote.Exit.unseen denote.Exit.unseen (λ x w. tt) (λ x w. tt) },
          record { owned = b.send-M-Plan.owned; leaving = λ k. Quiet-if (k (mir.Syntax.of_param 6)) denote.Exit.unseen denote.Exit.unseen (λ x w. tt) (λ x w. tt) },
          record { owned = b.send-R.owned; leaving = λ k. Quiet-if (k (mir.Syntax.of_param 4)) denote.Exit.unseen denote.Exit.unseen (λ x w. tt) (λ x w. tt) },
        ),
        (
          record { owned = b.send-I.owned; leaving = λ k. Quiet-if (k (mir.Syntax.of_param 0)) denote.Exit.unseen denote.Exit.unseen (λ x w. tt) (λ x w. tt) },
          record { owned = b.send-P.owned; leaving = λ k. Quiet-if (k (mir.Syntax.of_param 1)) denote.Exit.unseen denote.Exit.unseen (λ x w. tt) (λ x w. tt) },
          record { owned = b.send-Q.owned; leaving = λ k. Quiet-if (k (mir.Syntax.of_param 2)) denote.Exit.unseen denote.Exit.unseen (λ x w. tt) (λ x w. tt) },
          record { owned = b.send-M.owned; leaving = λ k. Quiet-if (k (mir.Syntax.of_param 3)) denote.Exit.unseen denote.Exit.unseen (λ x w. tt) (λ x w. tt) },
          record { owned = b.send-R.owned; leaving = λ k. Quiet-if (k (mir.Syntax.of_param 4)) denote.Exit.unseen denote.Exit.unseen (λ x w. tt) (λ x w. tt) },
          record { owned = b.send-M-Plan.owned; leaving = λ k. Quiet-if (k (mir.Syntax.of_param 6)) denote.Exit.unseen denote.Exit.unseen (λ x w. tt) (λ x w. tt) },
          record { shared = b.sync-W.shared },
        ),
      );
    }
