use Rattle.thread_local_base.proofs.CapacityLaws as laws
use Rattle.thread_local_base.proofs.capacity.capacity_reserves_its_digits.Goals as goal

pub returns-clause-none : goal.returns-clause-none
returns-clause-none c = laws.no_digits

pub returns-clause-digits : goal.returns-clause-digits
returns-clause-digits c = laws.below_digits

pub returns-clause-no_more : goal.returns-clause-no_more
returns-clause-no_more c = laws.digits_below

pub returns-clause-bounded : goal.returns-clause-bounded
returns-clause-bounded c = laws.few_digits

pub returns-clause-enough : goal.returns-clause-enough
returns-clause-enough c = laws.capacity-reserved_slots

pub returns-clause-buckets : goal.returns-clause-buckets
returns-clause-buckets c = laws.reserved_buckets

pub returns-clause-slots : goal.returns-clause-slots
returns-clause-slots c = laws.slots-reserved
