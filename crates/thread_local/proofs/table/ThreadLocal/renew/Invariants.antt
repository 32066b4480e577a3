-- the new sharing isn't called as the one before
use Rattle.thread_local.proofs.table.ThreadLocal.renew.Given as goal

abbrev pub ghost-renew : goal.ghost-renew
ghost-renew g a = a.self.now.sharing
