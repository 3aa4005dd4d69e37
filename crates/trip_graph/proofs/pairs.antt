pub mod PairTasks
