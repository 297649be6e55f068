use Rattle.std.proofs.Common.{arith, ap, ◌∙◌}
use Rattle.fan_map.proofs.JoinedLemmas.{joined_lookup, joined_lookup_held, joined_remove, joined_remove_held, joined_sorted}
use Rattle.std.specs.BTreeMap.{is_at}
use Rattle.std.specs.Map.{lookup}
use Rattle.fan_map.proofs.Insertions.{lookup_after_remove}
use Rattle.fan_map.proofs.map.Map.remove.Goals as goal

pub returns-then-not-is_held-clause-value : goal.returns-then-not-is_held-clause-value
returns-then-not-is_held-clause-value g c =
    grind (
      arith,
      joined_lookup g.met.K.Ord.total c.self.inside.rows.entries c.self.inside.held
          c.args.key.now,
    )

pub returns-then-not-is_held-clause-entries : goal.returns-then-not-is_held-clause-entries
returns-then-not-is_held-clause-entries g c =
    grind (
      arith,
      joined_remove g.met.K.Ord.total c.self.inside.rows.entries c.self.inside.held
          c.args.key.now c.self.invariant,
    )

pub returns-clause-value : goal.returns-clause-value
returns-clause-value g c =
    grind (
      arith,
      joined_lookup_held g.met.K.Ord.total c.self.inside.rows.entries c.self.inside.held
          c.args.key.now,
    )

pub returns-clause-entries : goal.returns-clause-entries
returns-clause-entries g c =
    grind (
      arith,
      joined_remove_held g.met.K.Ord.total c.self.inside.rows.entries c.self.inside.held
          c.args.key.now,
    )

pub returns-then-not-is_held-clause-found : goal.returns-then-not-is_held-clause-found
returns-then-not-is_held-clause-found g c = λ q.
    ap (lookup (is_at (g.K.Ord.cmp q))) (returns-then-not-is_held-clause-entries g c)
    ∙ lookup_after_remove g.K.Ord.cmp g.met.K.Ord.total c.args.key.now q c.args.self.now.entries
    (rw (← c.self.view_is) (joined_sorted g.met.K.Ord.total c.self.inside.rows.entries c.self.inside.held
    c.self.invariant))

pub returns-clause-found : goal.returns-clause-found
returns-clause-found g c = λ q.
    ap (lookup (is_at (g.K.Ord.cmp q))) (returns-clause-entries g c)
    ∙ lookup_after_remove g.K.Ord.cmp g.met.K.Ord.total c.args.key.now q c.args.self.now.entries
    (rw (← c.self.view_is) (joined_sorted g.met.K.Ord.total c.self.inside.rows.entries c.self.inside.held
    c.self.invariant))
