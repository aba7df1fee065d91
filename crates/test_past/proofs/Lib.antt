mod Faults
mod RowsTold
