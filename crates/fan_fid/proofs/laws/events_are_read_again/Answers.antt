use Rattle.std.proofs.Common.{◌+◌, length, refl, arith}
use Rattle.fan_fid.specs.Written.{infos_of}
use Rattle.fan_fid.proofs.AgainLemmas.{targets-fill, targets-short}
use Rattle.fan_fid.proofs.laws.events_are_read_again.Goals as goal

pub returns : goal.returns
returns c = λ before rest target mask fd pid can mask_fits fd_fits pid_fits.
    c.records_are_read_again.ensures before (infos_of target) rest (24 + length (infos_of target)) mask fd pid (record {
      whole = refl;
      len_fits = omega (arith, targets-short target can);
      mask_fits = mask_fits;
      fd_fits = fd_fits;
      pid_fits = pid_fits;
      are_infos = targets-fill target can;
    })
