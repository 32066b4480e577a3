-- It is known of std's types whether a `&` names a thread: of cells, since it holds the token of the
-- one that may use the cell; of containers, since it is known of what they hold.
use Rattle.std.proofs.Common.{◌+◌, ◌*◌, ◌-◌, take, drop, inl, inr, [], ◌∷◌, refl, arith, false}
use base.Fml.{Lft}
use base.Shift.{Keyless}
use denote.RattleType.{RattleType}
use denote.RawPtr.{Ptr, null_ptr, block_ptr, ◌+ₚ◌}
use denote.Builtin.{u8}
use denote.Array.{Array}
use denote.Param.{ArrayAt}
use denote.Param.Send.{IsSync, array_sync, number_array_sync, struct_sync, sendable}
use denote.Struct.Owning.{shape, to}
use denote.Struct.Lending.{lent_at}
use Rattle.std.specs.Mem.{type_size}
use Rattle.std.specs.VecDeque.Ownership.{in_place}
use Rattle.std.specs.contracts.alloc.Global as heap
use Rattle.std.specs.contracts.impls.GlobalAllocator.TheImpl.{ghosts}
use Rattle.std.specs.contracts.boxed.Box as Box
use Rattle.std.specs.contracts.cell.Cell as Cell
use Rattle.std.specs.contracts.cell.OnceCell as OnceCell
use Rattle.std.specs.contracts.cell.RefCell as RefCell
use Rattle.std.specs.contracts.collections.VecDeque as VecDeque
use Rattle.std.specs.contracts.string.String as String
use Rattle.std.specs.contracts.vec.Vec as Vec
use Rattle.thread_local_base.specs.Judged.{JudgedEverywhere}

abbrev handle : (heap.the_row).Denot
handle = record { memory = record { seal = tt } }

-- what a `&` to a container holds of its memory
lent : (R : RattleType) → IsSync R → (p : Ptr) (x : R.Denot) (κ : Lft) → Keyless (lent_at R p x κ)
lent R y null_ptr x κ = (tt, y.shared x _ _ κ)
lent R y (block_ptr b o) x κ = (tt, y.shared x b o κ)

module _ (R : RattleType) where
  pub cell : JudgedEverywhere (Cell.the_row R)
  cell = inr (λ b o. record { value = record { value = tt }; lifetime = []; names = λ k. (k.0.0 []).1 0 false })

  pub ref_cell : JudgedEverywhere (RefCell.the_row R)
  ref_cell = inr (λ b o. record { value = tt; lifetime = []; names = λ k. (k ([], 0, 0, 0)).1.0 0 false })

  pub once_cell : JudgedEverywhere (OnceCell.the_row R)
  once_cell = inr (λ b o. record { value = record { inner = tt }; lifetime = []; names = λ k. (k.0.0 ([], 0, 0, 0)).1.0 0 false })

  box_sync : IsSync R → IsSync (Box.the_row R heap.the_row ghosts)
  box_sync y =
      let O = Box.the_type R heap.the_row ghosts in
      record { shared = λ d b o κ. ((struct_sync (shape O) (search sendable depth 20)).shared (to O d) b o κ, lent R y d.ptr d.value κ) }

  vector_sync : IsSync R → IsSync (Vec.the_row R heap.the_row ghosts)
  vector_sync y =
      let O = Vec.the_type R heap.the_row ghosts in
      record {
        shared = λ d b o κ. (
          (struct_sync (shape O) (search sendable depth 20)).shared (to O d) b o κ,
          (tt, lent (Array R d.len) (array_sync R d.len y) d.ptr d.items κ),
        );
      }

  deque_sync : IsSync R → IsSync (VecDeque.the_row R heap.the_row ghosts)
  deque_sync y =
      let O = VecDeque.the_type R heap.the_row ghosts in
      record {
        shared = λ d b o κ. let n = d.len - d.wrapped in (
          (struct_sync (shape O) (search sendable depth 20)).shared (to O d) b o κ,
          (
            tt,
            (
              lent (Array R n) (array_sync R n y) (d.ptr +ₚ d.head * type_size R) (take n d.items) κ,
              lent (Array R d.wrapped) (array_sync R d.wrapped y) d.ptr (drop n d.items) κ,
            ),
          ),
        );
      }

  abbrev no_items : (Vec.the_row R heap.the_row ghosts).Denot
  no_items = record { ptr = null_ptr; len = 0; cap = 0; alloc = handle; items = []; ok = (refl, omega arith); small = omega arith }

  pub box : JudgedEverywhere R → JudgedEverywhere (Box.the_row R heap.the_row ghosts)
  box (inl at) = inl (record { ptr = null_ptr; alloc = handle; value = at.0 }, (box_sync (record { shared = at.1 })).shared)
  box (inr names) = inr (λ b o.
      let at = names b o in
      record {
        value = record { ptr = block_ptr b o; alloc = handle; value = at.value };
        lifetime = at.lifetime;
        names = λ k. at.names k.1.1;
      })

  pub vector : JudgedEverywhere R → JudgedEverywhere (Vec.the_row R heap.the_row ghosts)
  vector (inl at) = inl (no_items, (vector_sync (record { shared = at.1 })).shared)
  vector (inr names) = inr (λ b o.
      let at = names b o in
      record {
        value = record {
          ptr = block_ptr b o;
          len = 1;
          cap = 1;
          alloc = handle;
          items = at.value ∷ [];
          ok = (refl, omega arith);
          small = omega arith;
        };
        lifetime = at.lifetime;
        names = λ k. at.names k.1.1.1.1.0;
      })

  pub deque : JudgedEverywhere R → JudgedEverywhere (VecDeque.the_row R heap.the_row ghosts)
  deque (inl at) =
      inl (
        record {
          ptr = null_ptr;
          len = 0;
          cap = 0;
          head = 0;
          wrapped = 0;
          alloc = handle;
          items = [];
          ok = (refl, omega arith);
          small = (omega arith, omega arith);
          ring_fits = in_place 0 0 0 0 (omega arith, (omega arith, refl));
        },
        (deque_sync (record { shared = at.1 })).shared,
      )
  deque (inr names) = inr (λ b o.
      let at = names b (o + 0 * type_size R) in
      record {
        value = record {
          ptr = block_ptr b o;
          len = 1;
          cap = 1;
          head = 0;
          wrapped = 0;
          alloc = handle;
          items = at.value ∷ [];
          ok = (refl, omega arith);
          small = (omega arith, omega arith);
          ring_fits = in_place 1 1 0 0 (omega arith, (omega arith, refl));
        };
        lifetime = at.lifetime;
        names = λ k. at.names k.1.1.0.1.1.0;
      })

  pub array : (N : RattleType) → JudgedEverywhere R → JudgedEverywhere (ArrayAt R N)
  array N (inl at) = inl ([], (number_array_sync R N (record { shared = at.1 })).shared)
  array N (inr names) =
      inr (λ b o.
      let at = names b o in
      record { value = at.value ∷ []; lifetime = at.lifetime; names = λ k. at.names k.1.0 })

pub text : JudgedEverywhere (String.the_row heap.the_row ghosts)
text =
    let sync : IsSync (String.the_row heap.the_row ghosts) = search (sendable, vector_sync) in
    inl (record { bytes = no_items u8; ok = ∣ ([], (refl, refl)) ∣₁ }, sync.shared)
