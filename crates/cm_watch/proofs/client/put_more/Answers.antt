use Rattle.cm_watch.proofs.Followed.{can_put_more, put_read, put_same}
use Rattle.cm_watch.proofs.Told.{told_more}
use Rattle.cm_watch.proofs.client.put_more.Goals as goal

pub put_lines-requires : goal.put_lines-requires
put_lines-requires g c = can_put_more _ _ _ _ _ _ _ _ _ c.requires.read c.in_ok-scans.ensures.appended c.clear.ensures.items c.deref.ensures.value

pub returns-clause-read : goal.returns-clause-read
returns-clause-read g c = put_read _ _ _ _ _ _ _ _ _ c.requires.read c.in_ok-scans.ensures.appended c.clear.ensures.items c.deref.ensures.value _ c.in_ok-put_lines.ensures

pub returns-clause-same : goal.returns-clause-same
returns-clause-same g c = put_same _ _ _ _ _ _ _ _ _ c.requires.read c.in_ok-scans.ensures.appended c.clear.ensures.items c.deref.ensures.value _ c.in_ok-put_lines.ensures

pub returns-clause-told : goal.returns-clause-told
returns-clause-told g c = told_more _ _ _ _ _ _ c.requires.told c.released.ensures c.release.ensures.told _ _ _ _ c.in_ok-scans.ensures.appended
