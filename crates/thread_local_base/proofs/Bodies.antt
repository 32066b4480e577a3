-- What follows the first statement of a function's body.
use mir.Syntax.{Body, seq, call, return, skip, assign, block, loop, cond, switch, exit, unreachable, lend_static, call_v}

abbrev pub tail : Body → Body
tail (seq a b) = b
tail skip = skip
tail (assign p r) = skip
tail (block a) = skip
tail (loop a) = skip
tail (cond c a b) = skip
tail (switch c x) = skip
tail (exit k) = skip
tail return = skip
tail unreachable = skip
tail (lend_static p τ c) = skip
tail (call f xs d) = skip
tail (call_v c ς xs d) = skip
