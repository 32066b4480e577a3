use Rattle.std.proofs.Common.{refl}
use Rattle.thread_local_schedule.proofs.Sayings as says
use Rattle.thread_local_schedule.proofs.Counted as counted
use Rattle.thread_local_schedule.proofs.History as ids
use Rattle.thread_local_schedule.proofs.AsPublished as values
use Rattle.thread_local_schedule.proofs.MoveLaws as moves
use Rattle.thread_local_schedule.proofs.EventRules as rule
use Rattle.thread_local_schedule.proofs.Clauses as clause
use Rattle.thread_local_schedule.proofs.words.words_say.Goals as goal

pub returns : goal.returns
returns g c = record {
  installed = λ core. refl;
  private = says.private;
  nothing = says.nothing;
  takes = says.takes;
  most_at_first = λ core. refl;
  most_later = counted.most_later;
  most_cleared = counted.most_cleared;
  none_published = λ core. refl;
  one_published = counted.one_published;
  published_anew = counted.published_anew;
  drained_anew = counted.drained_anew;
  as_many_published = counted.as_many_published;
  take_moves = moves.take_moves;
  give_moves = moves.give_moves;
  publish_moves = moves.publish_moves;
  install_moves = moves.install_moves;
  empty_moves = moves.empty_moves;
  beside_moves = moves.beside_moves;
  own_filled = λ create number announced. refl;
  filled_slots = λ id number create announced. refl;
  install_goes = says.installs;
  rewrite_moves = moves.rewrite_moves;
  drain_moves = moves.drain_moves;
  clear_moves = moves.clear_moves;
  no_moves = λ core event other. moves.no_moves core event (λ t. let it = other t in record {
    take = it.0;
    give = it.1;
    publish = it.2;
    install = it.3;
    rewrite = it.4;
    drain = it.5;
    clear = it.6;
  });
  no_history = λ core. refl;
  one_take = ids.one_take;
  one_give = ids.one_give;
  one_publish = ids.one_publish;
  history_anew = ids.history_anew;
  no_more_noted = ids.no_more_noted;
  published_at_first = λ core. refl;
  rewritten = values.rewritten;
  drained = values.drained;
  cleared = values.cleared;
  published_as_before = values.as_before;
  take = says.take;
  owners = says.owners;
  of_local = says.local;
  of_walk = says.walk;
  walk_begins = says.begins;
  values_change = says.changes;
  table_ends = says.ends;
  ungranted = says.ungranted;
  made = says.made;
  newcomer = λ core event n local r. says.newcomer_comes core event n local (clause.fits core r);
  number_at = says.numbers;
  same_bucket = λ old new bucket x. x;
  own = says.own;
  own_slots = says.own_slots;
  no_event = λ core. tt;
  none_taken = says.none_taken;
  no_take = λ p core. tt;
  run_none = rule.run-none;
  run_more = rule.run-one;
  answers_none = λ view. refl;
  answers_more = λ view call calls. refl;
  begun = λ table. (refl, refl, refl, refl, refl, refl);
  none_among = says.none_among;
  one_among = says.one_among;
  alone = λ core n x. (x.locals n, x.walks n);
  nobody = λ core locals walks. record { locals = locals; walks = walks };
  no_call = λ local x. (x.gets, x.closure);
  all_below = λ n id held x. x id;
  written = λ slot x. x;
  allows_give = λ sheet id x. x;
  allows_publish = λ sheet id v x. x;
  step_keeps = λ step before after x. (x.id, x.start);
  get_begins = λ before after x. (x.calls.gets, x.calls.closure, x.calls.calls);
  publishing_begins = λ create before after x. (x.calls.none, x.calls.gets, x.calls.closure, x.calls.calls);
  calls_stay = says.calls_stay;
  memory_refused = λ before after x. (x.calls.ends.none, x.calls.ends.gets, x.calls.ends.calls, x.calls.answered);
  writes = says.writes;
  sets_flag = λ before after x. (x.calls.none, x.calls.gets, x.calls.calls);
  replies = says.replies;
  goes_down = λ table later before after x. x;
  ends_with = λ told before after x. (x.none, x.answered);
}
