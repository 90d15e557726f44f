pub mod ProgramLeaves
