use Rattle.std.proofs.Common.{◌≡◌, [], ◌∷◌, ◌++◌, ◌∙◌, append_assoc}
use Rattle.fan_dump.proofs.InfoLemmas.{lines_more, spelled_more}
use Rattle.fan_fid.specs.Infos.{SpellsInfo, info_end, parts_of}
use Rattle.fan_dump.proofs.event.print_infos.Goals as goal

pub loop-answer-preserved : goal.loop-answer-preserved
loop-answer-preserved c =
    let kept = c.loop-answer.invariant in
    let at = c.loop-answer.infos.at in
    let info = parts_of c.in-Ok.info in
    let here : SpellsInfo c.args.part.now at info = rw (c.in-Ok.is, kept.input) at c.in-Some.ensures.found in
    let next : c.next.new.self.at ≡ info_end c.args.part.now at =
    rw (c.in-Ok.is, kept.input) at c.in-Some.ensures.after in
    record {
      before = kept.before ++ info ∷ [];
      spelled = rw next (spelled_more c.args.part.now 0 at kept.before info kept.spelled here);
      put = c.in_ok-print_info.ensures ∙ rw (kept.put, lines_more kept.before info) (simp append_assoc);
      input = c.in-Some.ensures.input ∙ kept.input;
      filled = (rw (c.in-Ok.is, kept.input) at c.in-Some.ensures.filled).0 kept.filled;
    }
