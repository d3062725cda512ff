use Rattle.std.proofs.Common.{List, take}
use Rattle.std.specs.List.{Any}
use Rattle.ipdl_base.specs.declared.finding.TheConstants.Rule as rule
use Rattle.findings.specs.Adds.{Adds}
use Rattle.sync_list.specs.declared.list.Section.{Section}
use Rattle.sync_list.specs.Broken.{Lists, IsUnlistedAt}
use Rattle.sync_list.specs.Sets.{same_pair, KeysAre}
use Rattle.sync_list.proofs.report.add_unlisted_of.Given as goal

-- the messages so far have their findings
abbrev pub invariant-loop-message : goal.invariant-loop-message
invariant-loop-message l =
    (list : List Section) → KeysAre same_pair l.names (λ pair. Lists list pair.0.now pair.1.now) → Adds rule.UNLISTED_SYNC (λ place. Any (IsUnlistedAt list l.protocol place) (take l.message-index l.messages)) l.fn.found.items l.found.items
