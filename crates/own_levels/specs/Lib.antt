pub mod OwnLevels
