-- What shared buckets own at rest, and what a `&` to them holds: the same as their parts.
use Rattle.std.specs.Prelude.{List}
use mir.Val.{Val}
use base.Fml.{Lft, Fml, ffalse}
use denote.RattleType.{RattleType}
use denote.RawPtr.{Ptr, block_ptr, null_ptr}
use denote.Sharing.{said}
use Rattle.thread_local_shared_buckets.specs.TableView.{TableView}
use Rattle.thread_local_shared_buckets.specs.contracts.parts.SharedParts.{the_row}

abbrev pub parts_own : (R : RattleType) → TableView → List Val → Fml
parts_own R s vs = (the_row R).own_val s vs

abbrev pub parts_share : (R : RattleType) → TableView → Ptr → Lft → Fml
parts_share R s (block_ptr b o) κ = (the_row R).shr_at s b o κ
parts_share R s null_ptr κ = said ffalse κ
