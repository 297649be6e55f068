use Rattle.fan_fates.proofs.Answering.{differ_new, once_new}
use Rattle.fan_fates.proofs.Queues.{has_new, own_new}
use Rattle.fan_fates.proofs.Limits.{within_new}
use Rattle.fan_fates.proofs.ReadFirst.{read_new}
use Rattle.fan_fates.proofs.listeners.listeners_keep_their_limits.Goals as goal

-- src/listeners.rt
pub returns-clause-one_overflow : goal.returns-clause-one_overflow
returns-clause-one_overflow c = λ flags limit calls. (has_new flags limit calls).lost_once

pub returns-clause-limited : goal.returns-clause-limited
returns-clause-limited c = λ flags limit calls limits. within_new flags limit calls limits

pub returns-clause-descriptors_differ : goal.returns-clause-descriptors_differ
returns-clause-descriptors_differ c = λ flags limit calls fd. (differ_new flags limit calls).once fd

pub returns-clause-answered_once : goal.returns-clause-answered_once
returns-clause-answered_once c = λ flags limit calls entry. once_new flags limit calls entry

pub returns-clause-keys_differ : goal.returns-clause-keys_differ
returns-clause-keys_differ c = λ flags limit calls. own_new flags limit calls

pub returns-clause-answered_read : goal.returns-clause-answered_read
returns-clause-answered_read c = λ flags limit calls entry is. read_new flags limit calls entry is
