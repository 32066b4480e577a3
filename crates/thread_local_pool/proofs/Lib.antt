mod PoolLends
