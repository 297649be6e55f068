use Rattle.std.proofs.Common.{◌≡◌, ◌-◌, ◌++◌, map}
use Rattle.std.specs.List.{range_with_len}
use Rattle.fan_bulk.specs.Lines.{file_line, files}
use Rattle.fan_bulk.proofs.start.push_files.Given as goal

-- the lines that were put, and those of the files that are left, are those of all files
abbrev pub invariant-loop-file : goal.invariant-loop-file
invariant-loop-file l =
    l.lines.items ++ map file_line (range_with_len l.file (10 - l.file)) ≡ l.fn.lines.items ++ map file_line files
