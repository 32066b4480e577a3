-- The search for these takes seconds.
use Rattle.std.proofs.Common.{◌∙◌, ℕ, Option, ap, sym, refl}
use denote.Param.{param}
use Rattle.thread_local_base.specs.Learnt.{Learnt}
use Rattle.thread_local_shared_buckets.specs.declared.claimed.ClaimedSlot.{ClaimedSlot}
use Rattle.thread_local_shared_buckets.specs.Announcing.{Announcing}
use Rattle.thread_local_shared_buckets.specs.Known.{found_as}
use Rattle.thread_local_shared_buckets.proofs.IdLaws.{word_there}
use Rattle.thread_local_shared_buckets.proofs.claimed.ClaimedSlot.publish_second.Goals as goal

pub publish-requires : goal.publish-requires
publish-requires g c =
    let asked = c.requires in
    let id = c.args.self.now.id in
    record {
      vacant = asked.vacant;
      index = asked.index;
      flag_word =
          word_there (param 0 g.row.T) c.flag_word_of-flag_word.result id id c.args.thread.bucket c.args.thread.index c.flag_word_of-flag_word.ensures refl
          asked.place.0 asked.place.1;
      announced = (
        ◌∙◌ {A = Announcing} c.announce-again.ensures.0 asked.announcements.0,
        ◌∙◌ {A = ℕ} c.announce-again.ensures.1 asked.place.0,
      );
      sharing = asked.sharing;
    }

pub returns : goal.returns
returns g c =
    let to = c.publish.new.self in
    let on = λ (l : Learnt g.row.T.Denot). record c.args.self.now { at = to.at; state = to.state; learnt = l; left = to.left } in
    let learnt = ap (λ (slot : ClaimedSlot g.row.T.Denot). slot.learnt) c.publish.ensures in
    record {
      same = ◌∙◌ {A = ClaimedSlot g.row.T.Denot} c.publish.ensures (ap on (sym learnt));
      learnt = ◌∙◌ {A = Learnt g.row.T.Denot} learnt (sym (ap (λ (v : Option g.row.T.Denot). found_as v) c.emptied-value.ensures.value));
    }
