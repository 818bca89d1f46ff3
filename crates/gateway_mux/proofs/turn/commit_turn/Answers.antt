use Rattle.std.proofs.Common.{IfSome}
use Rattle.channel_map.specs.Pairs.{held_at}
use Rattle.up_books.specs.Ids.{holder_of}
use Rattle.up_books.specs.Numbers.{asker_of}
use Rattle.connection_table.specs.Tables.{client_at}
use Rattle.gateway_mux.specs.Settlements.{CanSettle, held_settled}
use Rattle.gateway_mux.specs.Upstream.{held_lent}
use Rattle.gateway_mux.specs.Turn.{free_once, asks_pair}
use Rattle.std.proofs.Common.{sym, ◌∙◌, ap}
use Rattle.std.specs.Option.{option_copied}
use Rattle.gateway_mux.specs.declared.upstream.UpstreamBooks.{UpstreamBooks}
use Rattle.connection_table.proofs.SeatLemmas.{kept_at}
use Rattle.gateway_mux.proofs.TurnLemmas.{reserved_settled, with_torn}
use Rattle.gateway_mux.proofs.turn.commit_turn.Goals.{then-asks, else-asks}
use Rattle.gateway_mux.proofs.turn.commit_turn.Goals as goal

pub settle_where-requires : goal.settle_where-requires
settle_where-requires c =
    with_torn
    (λ torn. IfSome c.args.turn.now.settled (CanSettle (λ n. asker_of c.args.upstream.now.requests n) (λ p. held_at p c.args.upstream.now.channels) (λ id. holder_of c.args.upstream.now.sessions id) c.args.upstream.now.sessions.spare c.args.turn.now.conn torn))
    c.args.turn.now.settled
    (client_at c.args.seats.now c.args.turn.now.conn)
    c.in_ok-slot.slot.now
    (option_copied c.torn_id-torn.result)
    (kept_at c.args.seats.now c.args.turn.now.conn c.args.turn.now.key c.requires.key ∙ sym c.in_ok-slot.ensures)
    c.torn_id-torn.ensures
    c.requires.settles

-- src/turn.rt:74:1
pub returns-clause-held : goal.returns-clause-held
returns-clause-held c =
    elim c.if-asks.branch [
      | then-asks w ↦ λ some p.
          ap (λ (u : UpstreamBooks). held_at p u.channels) w.upstream-is
          ∙ reserved_settled (λ q. held_at q c.args.upstream.now.channels) (λ q. held_at q c.settle_where.new.self.channels) (λ q. held_at q w.issue.new.self.channels) c.args.turn.now.settled w.is_for_a_pair.result (asks_pair (client_at c.commit.new.self c.args.turn.now.conn)) c.args.turn.now.conn c.settle_where.ensures.held w.is_for_a_pair.ensures w.issue.ensures.held p
          ∙ ap (λ t. held_lent t (asks_pair (client_at c.commit.new.self c.args.turn.now.conn)) c.args.turn.now.conn (free_once c.args.turn.now.settled (λ q. held_at q c.args.upstream.now.channels)) p (held_settled c.args.turn.now.settled p (held_at p c.args.upstream.now.channels))) (sym w.if-asks.true)
      | else-asks w ↦ λ some p.
          ap (λ (u : UpstreamBooks). held_at p u.channels) w.upstream-is
          ∙ c.settle_where.ensures.held p
          ∙ ap (λ t. held_lent t (asks_pair (client_at c.commit.new.self c.args.turn.now.conn)) c.args.turn.now.conn (free_once c.args.turn.now.settled (λ q. held_at q c.args.upstream.now.channels)) p (held_settled c.args.turn.now.settled p (held_at p c.args.upstream.now.channels))) (sym w.if-asks.false)
    ]
