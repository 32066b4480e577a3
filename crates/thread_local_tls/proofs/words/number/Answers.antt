use Rattle.std.proofs.Common.{◌∙◌, rules}
use Rattle.thread_local_tls.proofs.WordLaws.{parsed_number}
use Rattle.thread_local_tls.proofs.words.number.Goals as goal

pub returns : goal.returns
returns c = c.ok.ensures.value ∙ parsed_number c.args.word.now c.parse.result c.parse.ensures.value.0 (search rules) (search rules)
