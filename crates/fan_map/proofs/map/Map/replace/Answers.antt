use Rattle.std.proofs.Common.{arith, ap, sym, ◌∙◌}
use Rattle.fan_map.proofs.JoinedLemmas.{joined_lookup, joined_lookup_held, joined_set, joined_set_held, map_kept}
use Rattle.std.specs.BTreeMap.{is_at}
use Rattle.std.specs.Map.{lookup}
use Rattle.fan_map.proofs.Insertions.{lookup_after_set}
use Rattle.fan_map.proofs.map.Map.replace.Goals as goal

pub returns-then-not-is_held-clause-old : goal.returns-then-not-is_held-clause-old
returns-then-not-is_held-clause-old g c =
    grind (
      arith,
      joined_lookup g.met.K.Ord.total c.self.inside.rows.entries c.self.inside.held
          c.args.key.now,
    )

pub returns-then-not-is_held-clause-entries : goal.returns-then-not-is_held-clause-entries
returns-then-not-is_held-clause-entries g c =
    grind (
      arith,
      joined_set g.met.K.Ord.total c.self.inside.rows.entries c.self.inside.held
          c.args.key.now c.args.value c.self.invariant,
    )

pub returns-clause-old : goal.returns-clause-old
returns-clause-old g c =
    grind (
      arith,
      joined_lookup_held g.met.K.Ord.total c.self.inside.rows.entries c.self.inside.held
          c.args.key.now,
    )

pub returns-clause-entries : goal.returns-clause-entries
returns-clause-entries g c =
    rw (← c.self.view_is)
    (sym (joined_set_held g.met.K.Ord.total c.self.inside.rows.entries c.self.inside.held c.args.key.now
    c.args.value (c.in-Some.own, c.in-Some.old) (grind arith) c.self.invariant (grind arith)))

pub invariant_of-self : goal.invariant_of-self
invariant_of-self g c =
    rw c.replace_row.ensures.entries
    (map_kept g.met.K.Ord.total c.self.inside.rows.entries c.self.inside.held c.args.key.now c.args.value
    c.self.invariant)

pub returns-then-not-is_held-clause-found : goal.returns-then-not-is_held-clause-found
returns-then-not-is_held-clause-found g c = λ q.
    ap (lookup (is_at (g.K.Ord.cmp q))) (returns-then-not-is_held-clause-entries g c)
    ∙ lookup_after_set g.K.Ord.cmp g.met.K.Ord.total c.args.key.now q c.args.self.now.entries c.args.value

pub returns-clause-found : goal.returns-clause-found
returns-clause-found g c = λ q.
    ap (lookup (is_at (g.K.Ord.cmp q))) (returns-clause-entries g c)
    ∙ lookup_after_set g.K.Ord.cmp g.met.K.Ord.total c.args.key.now q c.args.self.now.entries c.args.value
