use Rattle.std.proofs.Common.{List}
use Rattle.fan_bits.specs.declared.mark.Mark.{Mark}
use Rattle.fan_build.specs.Building.{IsBuilt}
use Rattle.fan_build.specs.Objects.{changed_on}
use Rattle.fan_build.specs.Publishing.{CanPublishOn}
use Rattle.fan_build.proofs.Roots.{can_build_on}
use Rattle.fan_build.proofs.publish.publish_on.Given.{Over}
use Rattle.fan_build.proofs.publish.publish_on.Goals as goal

pub build-requires : goal.build-requires
build-requires g c = (
  c.requires.0,
  changed_on c.requires.0 c.args.change.now c.args.object,
  can_build_on (g.N.Cells.words c.args.rows.now) (g.N.Cells.rows c.args.rows.now) c.args.root c.requires.0
      c.args.change.now c.args.object c.on-edit.result c.on-edit.ensures c.requires.1,
)

-- what is built of each list of marks
built : (g : Over) (c : goal.After-build g) (marks : List Mark)
    → CanPublishOn (g.N.Cells.words c.args.rows.now) (g.N.Cells.rows c.args.rows.now) c.args.root marks
    c.args.change.now c.args.object
    → IsBuilt (g.N.Cells.words c.args.rows.now) (g.N.Cells.words c.build.new.rows)
    (g.N.Cells.rows c.args.rows.now) (g.N.Cells.rows c.build.new.rows) c.args.root marks
    (changed_on marks c.args.change.now c.args.object) c.build.result
built g c marks can =
    c.build.ensures marks (changed_on marks c.args.change.now c.args.object)
    (can_build_on (g.N.Cells.words c.args.rows.now) (g.N.Cells.rows c.args.rows.now) c.args.root marks
    c.args.change.now c.args.object c.on-edit.result c.on-edit.ensures can)

pub returns-clause-pictures : goal.returns-clause-pictures
returns-clause-pictures g c = λ marks can. (built g c marks can).pictures

pub returns-clause-reached : goal.returns-clause-reached
returns-clause-reached g c = (built g c c.requires.0 c.requires.1).reached

pub returns-clause-fresh : goal.returns-clause-fresh
returns-clause-fresh g c = (built g c c.requires.0 c.requires.1).fresh

pub returns-clause-needed : goal.returns-clause-needed
returns-clause-needed g c = λ marks can. (built g c marks can).needed

pub returns-clause-marks : goal.returns-clause-marks
returns-clause-marks g c = λ marks can. (built g c marks can).marks_is

pub returns-clause-rows : goal.returns-clause-rows
returns-clause-rows g c = (built g c c.requires.0 c.requires.1).rows_is

pub returns-clause-once : goal.returns-clause-once
returns-clause-once g c = (built g c c.requires.0 c.requires.1).once

pub returns-clause-same : goal.returns-clause-same
returns-clause-same g c = λ marks can. (built g c marks can).same

pub returns-clause-kept : goal.returns-clause-kept
returns-clause-kept g c = λ marks can. (built g c marks can).kept
