use Rattle.fan_build.proofs.below.rows_below.Goals as goal

pub row_below-requires-2-clause-tree : goal.row_below-requires-2-clause-tree
row_below-requires-2-clause-tree g c =
    (c.requires.0, c.requires.1, rw c.row_below.ensures.words c.requires.2, c.requires.3)

pub row_below-requires-3-clause-tree : goal.row_below-requires-3-clause-tree
row_below-requires-3-clause-tree g c =
    (c.requires.0, c.requires.1, rw (c.row_below-2.ensures.words, c.row_below.ensures.words) c.requires.2, c.requires.3)

pub row_below-requires-4-clause-tree : goal.row_below-requires-4-clause-tree
row_below-requires-4-clause-tree g c = (
  c.requires.0,
  c.requires.1,
  rw (c.row_below-3.ensures.words, c.row_below-2.ensures.words, c.row_below.ensures.words) c.requires.2,
  c.requires.3,
)
