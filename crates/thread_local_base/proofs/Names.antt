-- The names of the logic that proofs by hand use, exported from one file.
pub use Rattle.std.proofs.Common.{◌≡◌, ℕ, zero, suc, ◌+◌, ◌-◌, ◌*◌, ◌^◌, ◌<◌, ◌≤◌, List, [], ◌∷◌, ◌++◌, length}
pub use Rattle.std.proofs.Common.{length-append, length-set, set, refl, sym, ap, ◌∙◌, subst, lit<, arith, w64, Bool}
pub use Rattle.std.proofs.Common.{true, false, T, mul-le-mul_right, suc-mul, zero-mul, ◌≢◌, get_or, map}
pub use Rattle.std.proofs.Common.{mul-le-mul_left, mul-lt-mul_of_pos_right, is_some, IsSome, slice_index_or, slice_set}
pub use Rattle.std.proofs.Common.{◌&&◌}
pub use Rattle.std.specs.Prelude.{Option, Some, None}
pub use seplogic.Ra.Ura.{Ura}
pub use mir.Syntax.{Ty, Body, dcons, dnil, a_type, named, ty_int, ty_ptr, ty_array, ty_struct, tcons, tnil}
pub use mir.Raw.{raw as bare}
pub use mir.Val.{Val, vint, vptr, vcons, vnil, vunit, vstruct, of_list, has_ty, WT, vbool}
pub use mir.MapTy.{inst_fn}
pub use base.Fraction.{full_share}
pub use base.Logic.{SProp, ent, sep, wand, ex, all, all_e, guard, emp, via, id⊢, apply∗, guard_i, never, never_e}
pub use base.Fml.{Lft, Share, GName, Fml, ftrue, fsep, fex, fat, froom, fwand, flft, fbor, fobs, fauth, ffalse, fobor, finv}
pub use prog.Wp.{WpFn}
pub use types.Logic.{Logic, sem}
pub use types.Kit.{‵, raw, ◌⊛◌, some, given, later, mean, at_ret, any_q, ◌$◌, ◌∵◌, !, qed, by, move, keep, drop, split}
pub use types.Kit.{split3, join, fsplit, fsplit3, fjoin, fjoin3, fpick, fpack, pick, learn, check, show, frame, each}
pub use types.Kit.{assume, use0, use1, use2, use3, await, updating, now, rewrite, feq_i, feq_l, flt_i, suffices, group}
pub use types.Kit.{done}
pub use types.Run.{stop, fld, hop, load, addr, lit, unit_lit, size_word, align_word, of_opd, bin, no_more, and_then}
pub use types.Run.{first, blocks, exec, switches_on, returns, enter, init, store, look, look_raw, assigns, assigns_last}
pub use types.Run.{branches, un, Calls-last}
pub use types.ByLocal.{alloc_all, pass_all, free_all, look_at, get, get_in, get_tag, through, sets, sets_last, lands_as}
pub use types.ByLocal.{lands_last, is, env}
pub use types.Part.{agg, sub, look_in, whole}
pub use types.Match.{live, vrt, in_variant}
pub use types.Mut.{open_ref}
pub use types.Tokens.{bor_open, obor_close}
pub use types.SemTy.{SemTy}
pub use contract.Running.{tables}
pub use contract.Monad.{fact, fact_i, fact_use}
pub use contract.Shared.{Lends-one}
pub use denote.Exit.{yes, no}
pub use denote.RattleType.{RattleType, owns}
pub use denote.Laws.{Is, shows}
pub use denote.Signature.{types_at, plain, named_lft}
pub use denote.RawPtr.{Ptr, block_ptr, null_ptr, block_of, count_of, at_block, InBlock, ptr_val}
pub use denote.Memory.{mem, lone, part_at, cell_at}
pub use denote.Steps.{nothing, heard, opens, closes, peeks}
pub use denote.Param.{param, layout, layouts, bounded}
pub use denote.Param.Laws.{param_laws}
pub use denote.Builtin.{RefOf, u64, usize, RefMutOf, bool}
pub use denote.Ref.{mut_vals, mut_Tells, shr_vals, shr_Tells, MutBor}
pub use denote.Plain.{uint_vals, uint_Tells}
pub use denote.Triple.Entry.{alive}
pub use denote.Triple.Walked.{Stays, stay_dropped, stay_ref, walk_of, Goes-dropped, Goes-ref, Goes-spent_ref}
pub use denote.Struct.Members.{Member}
pub use denote.Opens.{unhide}
pub use denote.Follow.{follows}
pub use Rattle.std.proofs.raw_atomic.Walks.{proved, proved_at, leaves}
pub use Rattle.std.proofs.raw_atomic.Calls.{fm, found, finds, stored, has_stored}
pub use Rattle.std.proofs.alloc.Shapes.{after}
pub use Rattle.std.proofs.cell.Inside.{one, spread, gather}
pub use Rattle.std.specs.Sync.RawAtomic.{word}
pub use Rattle.std.specs.Sync.RawAtomic.Pointer.{cell}
pub use Rattle.std.proofs.ResultValues.{and_tt}
pub use Rattle.thread_local_base.proofs.Bodies.{tail}
pub use Rattle.std.proofs.mem.Param.{El, lawful, Good}
