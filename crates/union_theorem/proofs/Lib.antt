pub mod UnionRows
